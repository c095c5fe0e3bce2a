pub mod UnknownNode
