pub mod KeyLinks
