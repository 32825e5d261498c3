-- The rule of one parting: what each end owns, and what lies between the two under an invariant.
-- The word holds four times the published length, and 2 where the front has ended, and 1 where the tail has.
use Rattle.std.specs.Prelude.{◌≡◌, ℕ, zero, suc, ◌+◌, ◌*◌, ◌≤◌, Bool, true, false, List, [], ◌∷◌, ◌++◌, length}
use Rattle.std.specs.Borrow.{full_share}
use base.Stored.{Gv, gnum, gcons, bit, coded_ℕ, code_l}
use base.Fml.{Fml, ftrue, fsep, fex, finv, fobs, fauth}
use base.Growing.{Order, prefixes, latest, at_least}
use denote.RawPtr.{Ptr}
use Rattle.seg_block.specs.Memory.{word, word_room, bytes_at, way_back, known, IsPlaced}

-- a parting: the block's size, and the ghost names of the tail's view, the front's view, the published list and the list of the end that ended first
pub record Names : Type 0 where
  pub size : ℕ
  pub tail : ℕ
  pub front : ℕ
  pub log : ℕ
  pub first : ℕ

-- The role of an end. `last` is the end that ended second and owns all the memory, and `gone` the one that ended first
abbrev pub tail : ℕ
tail = 0

abbrev pub front : ℕ
front = 1

abbrev pub last : ℕ
last = 2

abbrev pub gone : ℕ
gone = 3

pub record State : Type 0 where
  pub fetched : List ℕ  -- published, and with the front
  pub pending : List ℕ  -- published since
  pub rest : List ℕ  -- what the tail left behind its last commit
  pub tail_left : Bool
  pub front_left : Bool

abbrev pub published : State → List ℕ
published s = s.fetched ++ s.pending

abbrev pub log_order : Order (List ℕ)
log_order = prefixes coded_ℕ

-- what a half of an end's view says
abbrev pub view : List ℕ → Bool → Gv
view log left = gcons (code_l gnum log) (gnum (bit left))

-- the end that ended first, while one of them is still there
abbrev pub first_of : Bool → Bool → List ℕ
first_of true b = tail ∷ []
first_of false true = front ∷ []
first_of false false = []

abbrev pub flag : Bool → ℕ
flag true = 1
flag false = 0

abbrev pub word_of : State → ℕ
word_of s = 4 * length (published s) + 2 * flag s.front_left + flag s.tail_left

abbrev pub if_left : Bool → Fml → Fml
if_left true F = F
if_left false F = ftrue

abbrev pub unless_both : Bool → Bool → Fml → Fml
unless_both true true F = ftrue
unless_both false b F = F
unless_both true false F = F

pub record Holds (size : ℕ) (s : State) : Type 0 where
  pub fits : length (published s) ≤ size
  pub filled : s.tail_left ≡ true → length (published s) + length s.rest ≡ size

module _ (base : Ptr) (z : Names) where
  abbrev pub runs : State → Fml
  runs s = fsep (bytes_at base (length s.fetched) s.pending)
      (fsep (if_left s.front_left (bytes_at base 0 s.fetched)) (if_left s.tail_left (bytes_at base (length (published s)) s.rest)))

  abbrev pub logs : State → Fml
  logs s = fsep (latest log_order full_share z.log (published s)) (latest log_order full_share z.first (first_of s.tail_left s.front_left))

  abbrev pub memory : State → Fml
  memory s = fsep (word base (word_of s)) (fsep (logs s) (fsep (runs s) (way_back base z.size)))

  abbrev pub views : State → Fml
  views s = fsep (fauth z.tail (view (published s) s.tail_left)) (fauth z.front (view s.fetched s.front_left))

  abbrev pub standing : State → Fml
  standing s = fsep (known (Holds z.size s)) (fsep (views s) (unless_both s.tail_left s.front_left (memory s)))

  abbrev pub Inner : Fml
  Inner = fex State standing

  abbrev pub common : Fml
  common = fsep (known (IsPlaced base z.size)) (finv Inner)

  abbrev pub whole : List ℕ → Fml
  whole xs = fsep (known (length xs ≡ z.size)) (bytes_at base 0 xs)

  -- `log` is what the tail has published, or what the front has fetched
  abbrev pub mine : ℕ → List ℕ → Fml
  mine zero log = fobs z.tail (view log false)
  mine (suc zero) log = fobs z.front (view log false)
  mine (suc (suc zero)) log = fsep (word_room base) (fsep (fex (List ℕ) whole) (way_back base z.size))
  mine (suc (suc (suc n))) log = ftrue

  abbrev pub gate_owns : ℕ → List ℕ → Fml
  gate_owns role log = fsep common (mine role log)

  -- the published list had reached `log`, and `first` the ends that had ended
  abbrev pub known_owns : List ℕ → List ℕ → Fml
  known_owns log first = fsep (at_least log_order z.log log) (at_least log_order z.first first)
