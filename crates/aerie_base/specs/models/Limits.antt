-- How much a model may have.
use Rattle.std.specs.Prelude.{ℕ}

abbrev pub cell_limit : ℕ
cell_limit = 256

-- activity types
abbrev pub type_limit : ℕ
type_limit = 256

-- of an activity type
abbrev pub parameter_limit : ℕ
parameter_limit = 16

-- of a body, parameters included
abbrev pub local_limit : ℕ
local_limit = 64

-- of a body, with those in its blocks
abbrev pub statement_limit : ℕ
statement_limit = 4_096

abbrev pub enum_limit : ℕ
enum_limit = 64

-- of an enumeration
abbrev pub variant_limit : ℕ
variant_limit = 256

abbrev pub resource_limit : ℕ
resource_limit = 256

abbrev pub daemon_limit : ℕ
daemon_limit = 64

-- of an activity type
abbrev pub require_limit : ℕ
require_limit = 64

-- of blocks within a body, and of operators within an expression or a condition
abbrev pub depth_limit : ℕ
depth_limit = 64

-- of a linear form, literals included
abbrev pub term_limit : ℕ
term_limit = 16

-- the greatest literal coefficient, and the least without its sign, 10^6
abbrev pub coefficient_limit : ℕ
coefficient_limit = 1_000_000
