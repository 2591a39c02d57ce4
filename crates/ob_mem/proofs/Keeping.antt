-- Events that are kept, and events that are lost.
use Rattle.std.proofs.Common.{◌≡◌, ℕ, zero, suc, ◌<◌, List, [], ◌∷◌, ◌++◌, Option, Some, None, refl, sym, ◌∙◌, ap, arith, append_assoc}
use Rattle.std.proofs.lemmas.List.{append-nil}
use Rattle.ob_base.specs.Causes.{Rose}
use Rattle.ob_store.specs.declared.event.Event.{Event}
use Rattle.ob_store.specs.Calls.{Notes, NotesLane, TellsOn}
use Rattle.ob_mem.specs.declared.log.Heard.{Heard}
use Rattle.ob_mem.specs.declared.log.Heard.TheVariants.{Call, Lane}
use Rattle.ob_mem.specs.Heard.{heard_events, told}

pub told_none : (s : ℕ) (events : List Event) → 0 < s → told s events ≡ None
told_none zero events more = absurd (omega arith)
told_none (suc s) events more = refl

of_push : (heard : List Heard) (h : Heard) → heard_events (heard ++ h ∷ []) ≡ heard_events heard ++ heard_events (h ∷ [])
of_push [] h = refl
of_push (Call event ∷ heard) h = ap (λ (l : List Event). event ∷ l) (of_push heard h)
of_push (Lane events ∷ heard) h = ap (λ (l : List Event). events.items ++ l) (of_push heard h) ∙ sym (append_assoc events.items (heard_events heard) (heard_events (h ∷ [])))

-- one more, where the count of those lost stays
noted : (s : ℕ) (old new more : List Event) → new ≡ old ++ more → Notes more (told s old) (told s new)
noted zero old new more is = is
noted (suc s) old new more is = tt

pub noted_call : (s t : ℕ) (heard later : List Heard) (event : Event) → t ≡ s → later ≡ heard ++ Call event ∷ [] → Notes (event ∷ []) (told s (heard_events heard)) (told t (heard_events later))
noted_call s t heard later event same is =
    rw same (noted s (heard_events heard) (heard_events later) (event ∷ []) (ap heard_events is ∙ of_push heard (Call event)))

pub noted_read : (s t : ℕ) (old new : List Event) (event : Event) → t ≡ s → new ≡ old ++ event ∷ [] → Notes (event ∷ []) (told s old) (told t new)
noted_read s t old new event same is = rw same (noted s old new (event ∷ []) is)

pub noted_none : (s t : ℕ) (heard later : List Heard) → t ≡ s → later ≡ heard → Notes [] (told s (heard_events heard)) (told t (heard_events later))
noted_none s t heard later same is = rw same (noted s (heard_events heard) (heard_events later) [] (ap heard_events is ∙ sym (append-nil (heard_events heard))))

-- once one is lost, none are told
pub lost_notes : (events : List Event) (seen : Option (List Event)) (s : ℕ) (now : List Event) → 0 < s → Notes events seen (told s now)
lost_notes events seen s now more = rw (told_none s now more) tt

pub lost_tells : (seen : Option (List Event)) (s : ℕ) (now : List Event) (l m : ℕ) → 0 < s → Rose l m → TellsOn seen (told s now) l m
lost_tells (Some old) s now l m more rose = rw (told_none s now more) rose
lost_tells None s now l m more rose = rw (told_none s now more) tt

pub tells_same : (s t : ℕ) (old new : List Event) (l m : ℕ) → t ≡ s → TellsOn (told s old) (told t new) l m
tells_same s t old new l m same = rw same (here s)
  where
    here : (s : ℕ) → TellsOn (told s old) (told s new) l m
    here zero = tt
    here (suc s) = tt

-- the reads of a lane, where it lost none
lane_kept : (a : ℕ) (heard later : List Heard) (es new : List Event) → heard_events later ≡ heard_events heard ++ es → NotesLane (told 0 es) (told a (heard_events heard)) (told a (heard_events later))
lane_kept zero heard later es new is = is
lane_kept (suc a) heard later es new is = tt

pub noted_lane : (a b s : ℕ) (heard later : List Heard) (es : List Event) → (s ≡ 0 → b ≡ a) → (0 < s → 0 < b) → heard_events later ≡ heard_events heard ++ es
    → NotesLane (told s es) (told a (heard_events heard)) (told b (heard_events later))
noted_lane a b zero heard later es none some now = rw (none refl) (lane_kept a heard later es es now)
noted_lane a b (suc s) heard later es none some now = rw (told_none b (heard_events later) (some (omega arith))) refl

pub of_lane : (heard later : List Heard) (h : Heard) (es : List Event) → later ≡ heard ++ h ∷ [] → heard_events (h ∷ []) ≡ es → heard_events later ≡ heard_events heard ++ es
of_lane heard later h es is these = ap heard_events is ∙ of_push heard h ∙ ap (λ (l : List Event). heard_events heard ++ l) these
