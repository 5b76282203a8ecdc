pub mod Reply
pub mod Lent
pub mod Checked
pub mod Answer
pub mod Tabled
pub mod Verdict
pub mod Printed
pub mod Inside
