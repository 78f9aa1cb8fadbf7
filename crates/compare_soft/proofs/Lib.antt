pub mod StoreLaws
