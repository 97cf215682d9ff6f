pub mod OperandLaws
pub mod RoomLaws
