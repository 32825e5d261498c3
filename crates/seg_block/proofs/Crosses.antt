-- What the raw values own names no thread.
use Rattle.std.proofs.Common.{ℕ, zero, suc, ◌+◌, Bool, true, false, List, [], ◌∷◌, length}
use base.Fraction.{full_share}
use base.Growing.{latest, at_least}
use base.Fml.{Fml}
use base.Shift.{Keyless}
use denote.Builtin.{u8, u64}
use denote.RawPtr.{Ptr, block_of, count_of}
use denote.RawPtr.Bytes.{bytes}
use denote.Param.Send.{IsSend, part_keyless, sendable}
use Rattle.core.specs.Allocator.{array_of}
use Rattle.libc.specs.Heap.{chunk-Keyless}
use Rattle.seg_block.specs.Memory.{bytes_at, run_owns, way_back, home_owns, words_of}
use Rattle.seg_block.specs.Rule.{Names, State, published, if_left, unless_both, runs, logs, memory, Inner, mine, gate_owns, known_owns}

byte-send : IsSend u8
byte-send = search sendable

bytes-keyless : (xs : List ℕ) (b o : ℕ) → Keyless (bytes full_share xs b o)
bytes-keyless [] b o = tt
bytes-keyless (x ∷ xs) b o = (part_keyless u8 byte-send full_share x b o, bytes-keyless xs b (o + 1))

pub run-keyless : (p : Ptr) (xs : List ℕ) → Keyless (run_owns p xs)
run-keyless p xs = bytes-keyless xs (block_of p) (count_of p)

room_for-keyless : (n : ℕ) (p : Ptr) → Keyless (denote.RawPtr.room_for (array_of u64 n) p)
room_for-keyless n (denote.RawPtr.block_ptr b o) = tt
room_for-keyless n denote.RawPtr.null_ptr = tt

way-keyless : (base : Ptr) (size : ℕ) → Keyless (way_back base size)
way-keyless base size = ((tt, tt), ((λ _. tt), (room_for-keyless (words_of size) base, chunk-Keyless (array_of u64 (words_of size)) base)))

pub home-keyless : (base : Ptr) (size : ℕ) → Keyless (home_owns base size)
home-keyless base size = ((λ _. tt), (tt, way-keyless base size))

pub known-keyless : (base : Ptr) (z : Names) (log first : List ℕ) → Keyless (known_owns base z log first)
unfolding at_least
known-keyless base z log first = (tt, tt)

if-keyless : (y : Bool) (F : Fml) → Keyless F → Keyless (if_left y F)
if-keyless true F h = h
if-keyless false F h = tt

unless-keyless : (a b : Bool) (F : Fml) → Keyless F → Keyless (unless_both a b F)
unless-keyless true true F h = tt
unless-keyless false b F h = h
unless-keyless true false F h = h

module _ (base : Ptr) (z : Names) where
  at-keyless : (k : ℕ) (xs : List ℕ) → Keyless (bytes_at base k xs)
  at-keyless k xs = bytes-keyless xs _ _

  logs-keyless : (s : State) → Keyless (logs base z s)
  unfolding latest
  logs-keyless s = (tt, tt)

  runs-keyless : (s : State) → Keyless (runs base z s)
  runs-keyless s = (
    at-keyless (length s.fetched) s.pending,
    (if-keyless s.front_left (bytes_at base 0 s.fetched) (at-keyless 0 s.fetched), if-keyless s.tail_left (bytes_at base (length (published s)) s.rest) (at-keyless (length (published s)) s.rest)),
  )

  inner-keyless : Keyless (Inner base z)
  inner-keyless s = ((λ _. tt), ((tt, tt), unless-keyless s.tail_left s.front_left (memory base z s) (tt, (logs-keyless s, (runs-keyless s, way-keyless base z.size)))))

  mine-keyless : (role : ℕ) (log : List ℕ) → Keyless (mine base z role log)
  mine-keyless zero log = tt
  mine-keyless (suc zero) log = tt
  mine-keyless (suc (suc zero)) log = (tt, ((λ xs. ((λ _. tt), at-keyless 0 xs)), way-keyless base z.size))
  mine-keyless (suc (suc (suc n))) log = tt

  pub gate-keyless : (role : ℕ) (log : List ℕ) → Keyless (gate_owns base z role log)
  gate-keyless role log = (((λ _. tt), inner-keyless), mine-keyless role log)
