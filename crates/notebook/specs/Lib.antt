-- What contracts see of a notebook.
pub mod Notebooks
