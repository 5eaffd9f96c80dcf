pub mod RootPaths
pub mod Below
