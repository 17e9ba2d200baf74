pub mod ObjectsRead
pub mod LinkScanned
pub mod UnrefusedObjects
pub mod ObjectsNamed
