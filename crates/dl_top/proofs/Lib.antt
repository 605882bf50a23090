mod Common
mod ReplyLaws
mod RunLaws
mod MadeLines
mod Division
mod RowsDetermined
mod Repeated
