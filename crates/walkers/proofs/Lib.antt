-- What the one proof of the walkers shares beside the laws of joins.
mod Beginning
