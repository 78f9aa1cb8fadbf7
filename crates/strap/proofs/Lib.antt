pub mod StrapLaws
