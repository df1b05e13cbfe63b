pub mod AllRead
