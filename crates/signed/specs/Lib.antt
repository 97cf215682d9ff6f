-- The third demand of the bench: read Under for the words, `signed` of proofs/Signed for the statement. The rest is its proof.
pub mod Under
pub mod Own
pub mod Roles
pub mod Behind
pub mod Steps
pub mod Live
pub mod Calm
pub mod ScToTso
pub mod Delayed
pub mod TsoToSc
