-- The round robin guarantees (demand 3 of 01), and cases computed from them.
pub mod Claims
pub mod ClaimCases
