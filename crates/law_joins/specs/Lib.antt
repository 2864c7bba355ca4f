-- What the walkers' contracts cite beside the rules.
pub mod Ready
