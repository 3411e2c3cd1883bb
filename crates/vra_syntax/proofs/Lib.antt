mod BoundLaws
mod ChainLaws
mod UnboundLaws
