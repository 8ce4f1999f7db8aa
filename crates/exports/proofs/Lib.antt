pub mod ListReply
