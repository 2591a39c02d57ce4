-- A run of a row whose last call was refused, with what it showed, is a run as a history's.
use Rattle.std.specs.Prelude.{◌≡◌, ℕ, Bool, List, ◌++◌, length, Option, Some}
use Rattle.std.specs.Ordering.{nat_cmp}
use Rattle.std.proofs.Common.{subst}
use Rattle.ob_base.specs.Tree.{width}
use Rattle.ob_base.specs.declared.params.Params.{Params}
use Rattle.ob_store.specs.Disk.{Disk, Image}
use Rattle.ob_store.specs.declared.event.Event.{Event}
use Rattle.ob_store.specs.declared.watch.Note.{Note}
use Rattle.ob_tables.specs.Rank.{IsRanking}
use Rattle.ob_twin.specs.declared.gates.Gates.{Gates}
use Rattle.ob_schedule.specs.Schedule.{Fills}
use Rattle.ob_seal.specs.declared.keys.Keys.{Keys}
use Rattle.ob_recover.specs.Calls.{Finds}
use Rattle.ob_recover.specs.Known.{gates_open}
use Rattle.ob_recover.specs.Life.{WordId, LifeAct, LifeState, formatted_life, reached}
use Rattle.ob_serial.specs.Serial.{Map}
use Rattle.ob_serial.specs.Vaults.{Fetch, VaultCall}
use Rattle.ob_opening.specs.OpeningActs.{AreGatesIn, StandsInLife}
use Rattle.ob_vault.specs.Hidden.{RingHidden}
use Rattle.ob_vault.specs.KindShown.{public_behind}
use Rattle.ob_vault.specs.Lives.{IsOpenedInLife, IsRunInLife, opening_acts}
use Rattle.ob_vault.specs.RingKind.{IsRingMap, RingFound, ring_kind, ring_public}
use Rattle.ob_vault.specs.Seen.{RingPublic}
use Rattle.ob_vault.specs.Shapes.{Shape}
use Rattle.ob_histories.specs.Fills.{AllFills}
use Rattle.ob_admitted.specs.Cuts.{life_behind_calls}
use Rattle.ob_admitted.specs.Gates.{LeavesGates, notes_lacking}
use Rattle.ob_admitted.specs.Lives.{IsLifeFilled}
use Rattle.ob_admitted.specs.Parts.{IsLeftAsShown, IsServedShown, PartsAreRuns}
use Rattle.ob_admitted.specs.Told.{AreGatesLeft, IsRunNoted}
use Rattle.ob_admitted.proofs.Fronting.{IsFrontNoted, IsServedFront, refused_lacking, refused_noted, served_front}
use Rattle.ob_admitted.proofs.Parts.{Filled, filled_made}
use Rattle.ob_admitted.proofs.Parts as parts

module _ {S : Type 0} (disk : S → Disk) (keys : Keys) (p : Params) (word_of : WordId → ℕ) (slot : ℕ → ℕ → ℕ) (f : AllFills) (before : List LifeAct) (ranked : (u : ℕ) → IsRanking (width p) (slot u)) (here : IsLifeFilled p word_of slot f before)
    (most : ℕ) (old : S) (found : RingFound) (opened : S) (calls : List VaultCall) (steps : List (Shape × Fills)) (behind : RingHidden) (refused : Option VaultCall) (words : List ℕ) (seen : List Event) (new : S) where
  abbrev s : LifeState
  s = reached p word_of (formatted_life slot) before

  abbrev q : RingPublic
  q = public_behind ring_kind p (ring_public p found) steps

  module _ (stands : StandsInLife keys p word_of s (disk old).cells) (o : IsOpenedInLife p word_of found s) (notes : List Note) (shown : IsServedShown keys most p (disk old).cells found calls steps behind refused words seen notes) where
    abbrev front : IsServedFront keys p (disk old).cells found calls steps behind refused words notes
    front = served_front keys most p (disk old).cells found calls steps behind refused words seen notes shown

    abbrev gates : ℕ → Bool
    gates = gates_open ((shown.found_in).found).gates

    module _ (run : IsRunInLife keys most p word_of s found (disk opened) calls steps behind refused words seen (disk new)) (m : Map nat_cmp) (is : IsRingMap keys p (disk opened) found m)
        (filled : Filled p word_of f s ((opening_acts s ++ (run.goes).acts) ++ ((run.goes).left m is).made)) where
      module _ (rest acts : List LifeAct) (finds : Finds ((run.goes).left m is).in_flight rest) (acts_are : acts ≡ (opening_acts s ++ (run.goes).acts) ++ (((run.goes).left m is).made ++ rest)) where
        abbrev made : List LifeAct
        made = ((run.goes).left m is).made

        abbrev Noted : Type 0
        Noted = IsRunNoted most p q behind refused words seen shown.more shown.refused_shown made ((run.goes).left m is).in_flight

        abbrev LeftAsShown : Option (ℕ → Bool) → Type 0
        LeftAsShown next = IsLeftAsShown p word_of f s (life_behind_calls p word_of s (run.goes).acts) gates steps refused made acts (length shown.more) next

        noted_front : Noted → IsFrontNoted p q behind refused words shown.more front.front_shown made ((run.goes).left m is).in_flight
        noted_front noted = refused_noted most p q behind refused words seen shown.more shown.refused_shown made ((run.goes).left m is).in_flight noted

        pub whole_of : Noted → (asks : List (Option ℕ)) → refused ≡ Some (Fetch asks) → length asks ≡ p.places
        whole_of noted = parts.whole_of disk keys p word_of slot f before ranked here most old found opened calls steps behind refused words seen new stands o notes front run m is filled rest acts finds acts_are (noted_front noted)

        pub left_as_shown : Noted → (next : Option (ℕ → Bool)) → AreGatesLeft p word_of f s gates steps refused acts (length shown.more) next → LeftAsShown next
        left_as_shown noted next gated = parts.left_as_shown disk keys p word_of slot f before ranked here most old found opened calls steps behind refused words seen new stands o notes front run m is filled rest acts finds acts_are (noted_front noted) next gated

        pub gates_left : Noted → LeavesGates keys p q behind refused (notes_lacking most p q behind refused words seen shown.more shown.refused_shown) (disk new).may_leave
            → (next : Option (ℕ → Bool)) → ((found_then : ℕ → Bool) → next ≡ Some found_then → (g : Gates) × (found_then ≡ gates_open g) × (image : Image) × (disk new).may_leave image × StandsInLife keys p word_of (reached p word_of s acts) image × AreGatesIn g image)
            → AreGatesLeft p word_of f s gates steps refused acts (length shown.more) next
        gates_left noted leaves next begins =
            parts.gates_left disk keys p word_of slot f before ranked here most old found opened calls steps behind refused words seen new stands o notes front run m is filled rest acts finds acts_are (noted_front noted)
            (subst (λ (lacking : ℕ). LeavesGates keys p q behind refused lacking (disk new).may_leave) (refused_lacking most p q behind refused words seen shown.more shown.refused_shown) leaves) next begins

pub parts_are : {S : Type 0} (disk : S → Disk) → PartsAreRuns disk
parts_are disk keys p word_of slot f before ranked here most old found opened calls steps behind refused words seen new stands small begins run m is rest acts finds acts_are filled notes shown next told =
    parts.part_is_run disk keys p word_of slot f before ranked here most old found opened calls steps behind refused words seen new stands (begins word_of (reached p word_of (formatted_life slot) before) stands small) notes (served_front keys most p (disk old).cells found calls steps behind refused words seen notes shown) run m is (filled_made p word_of f (reached p word_of (formatted_life slot) before) (opening_acts (reached p word_of (formatted_life slot) before) ++ (run.goes).acts) ((run.goes).left m is).made rest acts acts_are filled) rest acts finds acts_are next told
