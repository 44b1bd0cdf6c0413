-- codes, and proofs, by which equal entries and equal users are known: mark_found-stored and
-- method_found-stored
pub mod Codes
pub mod Items
pub mod Desks
pub mod Asks
pub mod Tickets
pub mod Counters
pub mod Shared
pub mod Lives
pub mod Sole
pub mod Closed
