-- The segment that the writer fills, and what is drafted.
use Rattle.std.specs.Prelude.{◌≡◌, ◌<◌, ◌+◌, ℕ, List, [], ◌∷◌, ◌++◌, length, take, drop}
use Rattle.std.specs.List.{flat_map}
use Rattle.pipe_core.specs.History.{Run, run_in}
use Rattle.pipe_state.specs.Sides.{FillingState}
use Rattle.pipe_state.specs.declared.current.Current.{Current}

abbrev pub list_of : Current → List FillingState
list_of (Current.Filling f) = f ∷ []
list_of (Current.Untaken none) = []

abbrev pub free_in : Current → List ℕ
free_in (Current.Filling f) = f.spare
free_in (Current.Untaken none) = none.items

-- where there is no segment, none was left, and nothing is free
abbrev pub IsSound : List FillingState → Current → Type 0
IsSound left (Current.Filling f) = Unit {0}
IsSound left (Current.Untaken none) = (none.items ≡ []) × (left ≡ [])

-- What was committed, what is drafted and what is free are all that it has.
abbrev pub IsWhole : Current → Type 0
IsWhole (Current.Filling f) = length f.bytes + length f.draft + length f.spare ≡ f.label.size
IsWhole (Current.Untaken none) = Unit {0}

-- what is drafted, segment by segment
abbrev pub drafts_in : List FillingState → List Run
drafts_in segments = flat_map (λ (f : FillingState). run_in f.label.id f.draft) segments

abbrev pub HasDraft : FillingState → Type 0
HasDraft f = 0 < length f.draft

-- its draft was committed
abbrev pub IsCommitted : Current → Current → Type 0
IsCommitted (Current.Filling f) (Current.Filling g) = (g.label ≡ f.label) × (g.spare ≡ f.spare) × (g.draft ≡ [])
IsCommitted (Current.Untaken none) (Current.Untaken same) = same ≡ none
IsCommitted before after = ⊥

-- so many bytes of its free part joined the draft
abbrev pub with_advanced : ℕ → FillingState → FillingState
with_advanced n f = record f { draft = f.draft ++ take n f.spare; spare = drop n f.spare }

abbrev pub IsAdvanced : ℕ → Current → Current → Type 0
IsAdvanced n (Current.Filling f) (Current.Filling g) = (g ≡ with_advanced n f) × (length f.bytes + length f.draft + length f.spare ≡ f.label.size)
IsAdvanced n (Current.Untaken none) (Current.Untaken same) = same ≡ none
IsAdvanced n before after = ⊥
