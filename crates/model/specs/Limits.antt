-- Document 01's limits, and document 02's (W2, W5).
use Rattle.std.specs.Prelude.{ℕ}

-- rows and columns
abbrev pub side_limit : ℕ
side_limit = 32

-- pressure steps
abbrev pub ceiling_limit : ℕ
ceiling_limit = 16777216

abbrev pub thickness_limit : ℕ
thickness_limit = 128

-- either way from 0
abbrev pub wedge_limit : ℕ
wedge_limit = 1000000000

-- along and across
abbrev pub step_limit : ℕ
step_limit = 4

-- a weight has two bytes in a file
abbrev pub weight_limit : ℕ
weight_limit = 65535

abbrev pub diagonal_limit : ℕ
diagonal_limit = 268435456

abbrev pub link_limit : ℕ
link_limit = 67108864

-- either way from 0
abbrev pub source_limit : ℕ
source_limit = 1125899906842624

-- the greatest number whose whole part an estimate takes
abbrev pub estimate_limit : ℕ
estimate_limit = 33554432
