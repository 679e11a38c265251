pub mod Listed
pub mod Dumped
pub mod Rows
pub mod Verdicts
pub mod Checked
pub mod Spoken
pub mod Internal
