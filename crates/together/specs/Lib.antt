-- What the promises of the public jobs say together: read `Found` for search and replay, `Board` for two searches and the check, `Listed` for 01's list,
-- `Asked` for blank goals, `Versions` for the same job in files of two versions.
pub mod Answered
pub mod Found
pub mod Board
pub mod Listed
pub mod Asked
pub mod Versions
