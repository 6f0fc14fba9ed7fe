-- The places of a bench.
use Rattle.std.specs.Prelude.{ℕ, ◌+◌, ◌*◌}

-- the most nodes that a bench reserves: three for each node of the largest book, and two at the root
abbrev pub most : ℕ
most = 3 * 256 + 2
