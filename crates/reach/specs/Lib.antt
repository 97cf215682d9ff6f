-- Reachability in any transition system. To be read in this order: the words of lists, a system and its runs, the order of schedules,
-- what the three answers of a search mean, a system that says why, and what the answers of a replay mean.
pub mod Lists
pub mod System
pub mod Order
pub mod Meaning
pub mod Words
pub mod Explained
pub mod Replay
-- What a search needs beside the system, and a search on lists.
pub mod Searchable
pub mod Rows
-- Laws.
pub mod ListLaws
pub mod OrderLaws
pub mod RunLaws
pub mod ReplayLaws
pub mod Growth
pub mod Offers
pub mod Levels
pub mod PutLaws
pub mod Found
pub mod Unique
pub mod Promise
pub mod Stored
pub mod WalkBack
