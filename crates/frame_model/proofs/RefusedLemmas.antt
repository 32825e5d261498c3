-- A frame is refused exactly where its front shows that its payload is too long.
use Rattle.std.proofs.Common.{◌≡◌, ◌<◌, ◌↔◌, ◌⊎◌, ℕ, List, length, get_or, refl, sym, ap, arith, inl, inr}
use Rattle.std.proofs.lemmas.Bool.{cases_lt, lt-ltb, lt-leb, and_right, eqb-true, eqb-false}
use Rattle.std.specs.Prelude.{nat_lt, nat_le}
use Rattle.std.proofs.lemmas.List.Sums.{passes_at_first, fails_before_first}
use Rattle.frame_model.specs.declared.framing.Framing.{Framing}
use Rattle.frame_model.specs.declared.framing.BadKind.{BadKind}
use Rattle.frame_model.specs.declared.head.Head.{Head}
use Rattle.frame_model.specs.declared.head.Head.TheVariants.{Short, Broken, Told}
use Rattle.frame_model.specs.Heads.{Heads, Layout, Counted, Lines, layout}
use Rattle.frame_model.specs.Spelling.{is_line_feed}
use Rattle.frame_model.specs.Cut.{Refused, front, front_in, headed_front, line_front, HasTooGreatHead, HasBrokenHead, HasTooLongLine, IsRefused, IsRefusedIn}
use Rattle.frame_model.proofs.FrontLemmas.{HeadRefuses, headed_refused, line_len, line_refused}

-- as what the head tells refuses
told_refuses : (heads : Heads) (v : Head) (max : ℕ) (x : List ℕ) (kind : BadKind) → heads.tells x ≡ v → HeadRefuses v max kind → HasTooGreatHead heads max x kind ⊎ HasBrokenHead heads x kind
told_refuses heads Short max x kind is r = elim r [ ]
told_refuses heads (Broken k) max x kind is r = inr (record { bytes = k; broken = is; told = r })
told_refuses heads (Told h n) max x kind is r = inl (record { bytes = h; number = n; whole = is; too_great = r.0; told = r.1 })

headed_refused_is : (heads : Heads) (max : ℕ) (x : List ℕ) (kind : BadKind) → headed_front (heads.tells x) max x ≡ Refused kind → HasTooGreatHead heads max x kind ⊎ HasBrokenHead heads x kind
headed_refused_is heads max x kind e = told_refuses heads (heads.tells x) max x kind refl (headed_refused (heads.tells x) max x kind e)

headed_refused_from : (heads : Heads) (max : ℕ) (x : List ℕ) (kind : BadKind) → HasTooGreatHead heads max x kind ⊎ HasBrokenHead heads x kind → headed_front (heads.tells x) max x ≡ Refused kind
headed_refused_from heads max x kind (inl great) = rw great.whole (rw (lt-ltb max great.number great.too_great) (ap Refused (sym great.told)))
headed_refused_from heads max x kind (inr broken) = rw broken.broken (ap Refused (sym broken.told))

line_refused_is : (max : ℕ) (x : List ℕ) (kind : BadKind) → line_front max x ≡ Refused kind → HasTooLongLine max x kind
line_refused_is max x kind e =
    let l = line_refused max x kind e in
    record {
      longer = l.0;
      unended = λ k le. eqb-false (get_or x k 0) 10 (fails_before_first is_line_feed x k 0 (omega (arith, l.1, le)));
      told = l.2;
    }

-- the first line feed stands behind the first `max + 1` bytes
line_is_long : (max : ℕ) (x : List ℕ) (kind : BadKind) → HasTooLongLine max x kind → max < line_len x
line_is_long max x kind h =
    elim (cases_lt max (line_len x)) [
      | inl lt ↦ lt
      | inr le ↦ absurd (h.unended (line_len x) le (eqb-true (get_or x (line_len x) 0) 10 (passes_at_first is_line_feed x 0 (omega (arith, h.longer, le)))))
    ]

line_refused_from : (max : ℕ) (x : List ℕ) (kind : BadKind) → HasTooLongLine max x kind → line_front max x ≡ Refused kind
line_refused_from max x kind h =
    rw (
      and_right (nat_lt (line_len x) (length x)) (nat_le (line_len x) max) (lt-leb (line_len x) max (line_is_long max x kind h)),
      lt-ltb max (length x) h.longer,
      h.told,
    ) refl

refused_in : (l : Layout) (max : ℕ) (x : List ℕ) (kind : BadKind) → (front_in l max x ≡ Refused kind) ↔ IsRefusedIn l max x kind
refused_in (Counted heads) max x kind = (headed_refused_is heads max x kind, headed_refused_from heads max x kind)
refused_in Lines max x kind = (line_refused_is max x kind, line_refused_from max x kind)

pub refused : (f : Framing) (max : ℕ) (x : List ℕ) (kind : BadKind) → (front f max x ≡ Refused kind) ↔ IsRefused f max x kind
refused f = refused_in (layout f)
