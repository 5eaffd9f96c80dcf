pub mod FoundNumbers
pub mod MetSubcommands
