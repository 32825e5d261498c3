-- Words on one end of a parting, without its bytes.
use Rattle.std.specs.Prelude.{◌≡◌, ℕ, ◌+◌, ◌⊎◌, [], length}
use Rattle.seg_block.specs.Memory.{place}
use Rattle.seg_block.specs.Rule.{tail, front}
use Rattle.seg_block.specs.declared.run.Run.{Run}
use Rattle.seg_block.specs.declared.known.Known.{Known}
use Rattle.seg_block.specs.declared.gate.Gate.{Gate}
use Rattle.seg_block.specs.declared.home.Home.{Home}

-- one end of one parting
abbrev pub SameGate : Gate → Gate → Type 0
SameGate a b = (b.base ≡ a.base) × (b.names ≡ a.names)

-- what is known of the end's parting
abbrev pub IsKnownOf : Gate → Known → Type 0
IsKnownOf g k = (k.base ≡ g.base) × (k.names ≡ g.names)

-- a tail gives up its free bytes and the bit 1, and a front all that it fetched and the bit 2
abbrev pub Leaves : Gate → Run → ℕ → Type 0
Leaves g r bit =
    ((g.role ≡ tail) × (bit ≡ 1) × (r.ptr ≡ place g.base (length g.log)) × (length g.log + length r.items ≡ g.names.size))
    ⊎ ((g.role ≡ front) × (bit ≡ 2) × (r.ptr ≡ place g.base 0) × (r.items ≡ g.log))

-- the tail t and the front f of a new parting of h
pub record Opens (h : Home) (t f : Gate) (k : Known) (none : Run) : Type 0 where
  pub base : (t.base ≡ h.base) × (f.base ≡ h.base) × (k.base ≡ h.base)
  pub names : (f.names ≡ t.names) × (k.names ≡ t.names)
  pub size : t.names.size ≡ h.size
  pub roles : (t.role ≡ tail) × (f.role ≡ front)
  pub logs : (t.log ≡ []) × (f.log ≡ []) × (k.log ≡ [])
  pub empty : (none.ptr ≡ place h.base 0) × (none.items ≡ [])
