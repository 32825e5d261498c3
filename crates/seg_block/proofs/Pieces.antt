-- Bytes of a segment, cut in two and put together. Assumes `Logic`.
use Rattle.std.proofs.Common.{◌≡◌, ℕ, ◌+◌, List, ◌++◌, length, subst, arith}
use seplogic.Ra.Ura.{Ura}
use base.Fraction.{full_share}
use base.Logic.{ent, sep}
use types.Logic.{Logic, sem}
use denote.RawPtr.{Ptr, block_of, count_of}
use denote.RawPtr.Bytes.{bytes, bytes_cut, bytes_glue}
use Rattle.seg_block.specs.Memory.{bytes_at}

module _ {M : Type 1} {𝓤 : Ura M} (𝓛 : Logic 𝓤) (base : Ptr) (k m : ℕ) (xs ys : List ℕ) (is : m ≡ k + length xs) where
  abbrev b : ℕ
  b = block_of base

  abbrev o : ℕ
  o = count_of base + (8 + k)

  same : o + length xs ≡ count_of base + (8 + m)
  same = omega arith

  pub cut_at : ent 𝓤 (sem 𝓛 (bytes_at base k (xs ++ ys))) (sep 𝓤 (sem 𝓛 (bytes_at base k xs)) (sem 𝓛 (bytes_at base m ys)))
  cut_at = subst (λ (e : ℕ). ent 𝓤 (sem 𝓛 (bytes full_share (xs ++ ys) b o)) (sep 𝓤 (sem 𝓛 (bytes full_share xs b o)) (sem 𝓛 (bytes full_share ys b e)))) same (bytes_cut 𝓛 full_share xs ys b o)

  pub glue_at : ent 𝓤 (sep 𝓤 (sem 𝓛 (bytes_at base k xs)) (sem 𝓛 (bytes_at base m ys))) (sem 𝓛 (bytes_at base k (xs ++ ys)))
  glue_at = subst (λ (e : ℕ). ent 𝓤 (sep 𝓤 (sem 𝓛 (bytes full_share xs b o)) (sem 𝓛 (bytes full_share ys b e))) (sem 𝓛 (bytes full_share (xs ++ ys) b o))) same (bytes_glue 𝓛 full_share xs ys b o)
