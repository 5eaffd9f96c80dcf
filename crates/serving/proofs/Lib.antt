pub mod Utf8Bundles
