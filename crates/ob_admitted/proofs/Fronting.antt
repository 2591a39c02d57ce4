-- A run whose last call was refused, or cut off anywhere: of its row a front was shown.
use Rattle.std.specs.Prelude.{◌≡◌, ◌⊎◌, ℕ, ◌-◌, List, [], ◌++◌, length, Option, None, Some}
use Rattle.std.specs.Ordering.{nat_cmp}
use Rattle.std.proofs.Common.{refl, subst}
use Rattle.ob_base.specs.declared.params.Params.{Params}
use Rattle.ob_store.specs.Disk.{Disk, Image}
use Rattle.ob_store.specs.declared.event.Event.{Event}
use Rattle.ob_store.specs.declared.watch.Note.{Note}
use Rattle.ob_schedule.specs.Schedule.{Fills, head_notes}
use Rattle.ob_seal.specs.declared.keys.Keys.{Keys}
use Rattle.ob_recover.specs.Life.{LifeAct, LifeState, WordId}
use Rattle.ob_serial.specs.Serial.{Map}
use Rattle.ob_serial.specs.Vaults.{End, Fetch, VaultCall}
use Rattle.ob_vault.specs.Acts.{AreTapeWords}
use Rattle.ob_vault.specs.Hidden.{RingDrawsCut, RingHidden}
use Rattle.ob_vault.specs.Joined.{IsRunTold, Served}
use Rattle.ob_vault.specs.KindShown.{public_behind, steps_notes}
use Rattle.ob_vault.specs.RingKind.{IsRingFound, IsRingMap, RingFound, ring_hidden, ring_kind, ring_public}
use Rattle.ob_vault.specs.Seen.{RingPublic, opening_shows, ring_notes}
use Rattle.ob_vault.specs.Shapes.{Shape, shape_of}
use Rattle.ob_vault.specs.Shown.{IsInLife}
use Rattle.ob_admitted.specs.Calls.{AreStepsOf}
use Rattle.ob_admitted.specs.Gates.{LeavesGates, notes_lacking}
use Rattle.ob_admitted.specs.Parts.{IsRefusedShown, IsServedShown}
use Rattle.ob_admitted.specs.Stopped.{IsServedAsShown}
use Rattle.ob_admitted.specs.Told.{IsLeftAsNoted, IsRunNoted}
use Rattle.ob_admitted.proofs.Shown.{IsFront, batch_draws, front_refused}

-- a call's fills are those that it draws; or it is a batch that showed nothing
abbrev pub DrawsShown : Params → RingHidden → VaultCall → Fills → (words : List ℕ) → List Note → Type 0
DrawsShown p h (Fetch asks) c words more = RingDrawsCut p h (Fetch asks) c words ⊎ (more ≡ [])
DrawsShown p h (End writes) c words more = RingDrawsCut p h (End writes) c words

-- of a call, if there is one, a front of its row was shown
abbrev pub IsFrontShown : Params → RingPublic → RingHidden → Option VaultCall → (words : List ℕ) → List Note → Type 0
IsFrontShown p q h None words more = more ≡ []
IsFrontShown p q h (Some call) words more = (c : Fills) × DrawsShown p h call c words more × IsFront (ring_notes p q (shape_of call) c) more

-- what is left of it is as so many notes tell
abbrev pub IsFrontNoted : (p : Params) (q : RingPublic) (h : RingHidden) (cut : Option VaultCall) (words : List ℕ) (more : List Note) → IsFrontShown p q h cut words more → List LifeAct → Option LifeAct → Type 0
IsFrontNoted p q h None words more is made in_flight = Unit {0}
IsFrontNoted p q h (Some call) words more is made in_flight = IsLeftAsNoted p q call is.0 (length more) made in_flight

-- and so many lack
abbrev pub front_lacking : (p : Params) (q : RingPublic) (h : RingHidden) (cut : Option VaultCall) (words : List ℕ) (more : List Note) → IsFrontShown p q h cut words more → ℕ
front_lacking p q h None words more is = 0
front_lacking p q h (Some call) words more is = length (ring_notes p q (shape_of call) is.0) - length more

-- A run, as `IsServedShown` tells it, but for its last call, of which any front was shown.
pub record IsServedFront (keys : Keys) (p : Params) (image : Image) (found : RingFound) (calls : List VaultCall) (steps : List (Shape × Fills)) (behind : RingHidden) (cut : Option VaultCall) (words : List ℕ) (notes : List Note) : Type 0 where
  pub found_in : IsRingFound keys p image found
  pub steps_are : AreStepsOf calls steps
  pub more : List Note
  pub front_shown : IsFrontShown p (public_behind ring_kind p (ring_public p found) steps) behind cut words more
  pub notes_are : notes
      ≡ (head_notes ++ opening_shows p found.content found.records (found.run).epoch ((found.run).sealer).generation (found_in.found).gates ++ steps_notes ring_kind p (ring_public p found) steps) ++ more

module _ {S : Type 0} (disk : S → Disk) (keys : Keys) (p : Params) where
  -- Such a run, which left of its last call, and of the gates, what the notes tell.
  pub record IsFrontLeft (most : ℕ) (old : S) (found : RingFound) (opened : S) (calls : List VaultCall) (steps : List (Shape × Fills)) (behind : RingHidden) (cut : Option VaultCall) (words : List ℕ) (seen : List Event) (new : S)
      (told : IsRunTold disk keys p (Served most old found opened calls steps behind cut words seen new)) (notes : List Note) : Type 0 where
    pub shown : IsServedFront keys p (disk old).cells found calls steps behind cut words notes
    pub noted : (word_of : WordId → ℕ) (s : LifeState) (here : IsInLife p word_of (ring_hidden found) s) (tape : AreTapeWords word_of (ring_hidden found).generation words) (m : Map nat_cmp) (is : IsRingMap keys p (disk opened) found m)
        → IsFrontNoted p (public_behind ring_kind p (ring_public p found) steps) behind cut words shown.more shown.front_shown ((told.1 word_of s here tape).left m is).made ((told.1 word_of s here tape).left m is).in_flight
    pub gated : LeavesGates keys p (public_behind ring_kind p (ring_public p found) steps) behind cut (front_lacking p (public_behind ring_kind p (ring_public p found) steps) behind cut words shown.more shown.front_shown) (disk new).may_leave

-- ---- a call that was refused

pub refused_draws : (most : ℕ) (p : Params) (q : RingPublic) (h : RingHidden) (call : VaultCall) (words : List ℕ) (seen : List Event) (more : List Note) (is : IsRefusedShown most p q h (Some call) words seen more) → DrawsShown p h call is.0 words more
refused_draws most p q h (Fetch asks) words seen more is = batch_draws most p q is.0 seen more h asks words is.1 is.2 is.3
refused_draws most p q h (End writes) words seen more is = (is.2).0

abbrev pub refused_front : (most : ℕ) (p : Params) (q : RingPublic) (h : RingHidden) (refused : Option VaultCall) (words : List ℕ) (seen : List Event) (more : List Note) → IsRefusedShown most p q h refused words seen more → IsFrontShown p q h refused words more
refused_front most p q h None words seen more is = is
refused_front most p q h (Some call) words seen more is = (is.0, refused_draws most p q h call words seen more is, front_refused most p q is.0 seen more call is.1 is.3)

pub refused_noted : (most : ℕ) (p : Params) (q : RingPublic) (h : RingHidden) (refused : Option VaultCall) (words : List ℕ) (seen : List Event) (more : List Note) (is : IsRefusedShown most p q h refused words seen more) (made : List LifeAct) (in_flight : Option LifeAct)
    → IsRunNoted most p q h refused words seen more is made in_flight → IsFrontNoted p q h refused words more (refused_front most p q h refused words seen more is) made in_flight
refused_noted most p q h None words seen more is made in_flight noted = noted
refused_noted most p q h (Some call) words seen more is made in_flight noted = noted

pub refused_lacking : (most : ℕ) (p : Params) (q : RingPublic) (h : RingHidden) (refused : Option VaultCall) (words : List ℕ) (seen : List Event) (more : List Note) (is : IsRefusedShown most p q h refused words seen more)
    → notes_lacking most p q h refused words seen more is ≡ front_lacking p q h refused words more (refused_front most p q h refused words seen more is)
refused_lacking most p q h None words seen more is = refl
refused_lacking most p q h (Some call) words seen more is = refl

abbrev pub served_front : (keys : Keys) (most : ℕ) (p : Params) (image : Image) (found : RingFound) (calls : List VaultCall) (steps : List (Shape × Fills)) (behind : RingHidden) (refused : Option VaultCall) (words : List ℕ) (seen : List Event) (notes : List Note)
    → IsServedShown keys most p image found calls steps behind refused words seen notes → IsServedFront keys p image found calls steps behind refused words notes
served_front keys most p image found calls steps behind refused words seen notes is = record {
  found_in = is.found_in;
  steps_are = is.steps_are;
  more = is.more;
  front_shown = refused_front most p (public_behind ring_kind p (ring_public p found) steps) behind refused words seen is.more is.refused_shown;
  notes_are = is.notes_are;
}

-- a run whose last call was refused
module _ {S : Type 0} (disk : S → Disk) (keys : Keys) (p : Params) where
  abbrev pub refused_left : (most : ℕ) (old : S) (found : RingFound) (opened : S) (calls : List VaultCall) (steps : List (Shape × Fills)) (behind : RingHidden) (refused : Option VaultCall) (words : List ℕ) (seen : List Event) (new : S)
      (told : IsRunTold disk keys p (Served most old found opened calls steps behind refused words seen new)) (notes : List Note) → IsServedAsShown disk keys p most old found opened calls steps behind refused words seen new told notes
      → IsFrontLeft disk keys p most old found opened calls steps behind refused words seen new told notes
  refused_left most old found opened calls steps behind refused words seen new told notes is =
      let q : RingPublic = public_behind ring_kind p (ring_public p found) steps in
      record {
        shown = served_front keys most p (disk old).cells found calls steps behind refused words seen notes is.shown;
        noted = λ word_of s here tape m is_map. refused_noted most p q behind refused words seen (is.shown).more (is.shown).refused_shown _ _ (is.noted word_of s here tape m is_map);
        gated = subst (λ (lacking : ℕ). LeavesGates keys p q behind refused lacking (disk new).may_leave) (refused_lacking most p q behind refused words seen (is.shown).more (is.shown).refused_shown) is.gated;
      }
