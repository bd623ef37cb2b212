pub mod Fault
pub mod Pages
pub mod PageLaws
pub mod Report
pub mod Printed
pub mod ReportLaws
pub mod StateText
pub mod Agreement
