pub mod ReportLaws
pub mod ToldLaws
pub mod PrintLaws
