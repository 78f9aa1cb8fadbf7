pub mod CForm
