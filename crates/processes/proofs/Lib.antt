pub mod Listed
pub mod CallCases
pub mod PlugCases
pub mod JoinCases
pub mod JoinRows
