pub mod Publish
