-- A format begins a world, and so does what a crash inside it leaves, where that is a store.
use Rattle.std.specs.FinMap.{get-empty}
use Rattle.std.specs.Ordering.{nat_cmp}
use Rattle.std.proofs.Common.{◌≡◌, inl, inr, ℕ, List, length, refl, sym, subst, arith}
use Rattle.std.proofs.lemmas.List.{take_all}
use Rattle.ob_base.specs.declared.params.Params.{Params}
use Rattle.ob_opening.proofs.FirstLaws.{formatted}
use Rattle.ob_opening.proofs.FirstLives.{first_stands}
use Rattle.ob_opening.specs.Formats.{RingFormatLeaves, format_words, formatted_standing}
use Rattle.ob_recover.specs.Telling.{AreDealt}
use Rattle.ob_schedule.specs.Phases.{phases_of}
use Rattle.ob_schedule.specs.Schedule.{format_notes}
use Rattle.ob_seal.specs.declared.keys.Keys.{Keys}
use Rattle.ob_stand.proofs.VaultLaws.{ring_stands}
use Rattle.ob_stand.specs.Stands.{Stands, StandsRing}
use Rattle.ob_start.specs.Heads.{head_cell}
use Rattle.ob_store.proofs.Moments.{weakened}
use Rattle.ob_store.specs.Calls.{Notes}
use Rattle.ob_store.specs.Disk.{Disk, Image}
use Rattle.ob_store.specs.Told.{events_of}
use Rattle.ob_store.specs.declared.event.Event.{Event}
use Rattle.ob_vault.proofs.Formatted.{formats}
use Rattle.ob_vault.specs.Formats.{beginning}
use Rattle.ob_vault.specs.Lives.{RingFormatted}
use Rattle.ob_vault.specs.RingKind.{ring_version}
use Rattle.ob_ring_world.proofs.Sounding.{dealt_one_by_one}
use Rattle.ob_ring_world.specs.Formatting.{BeginsIn, FormatsBeginWorlds, FormatsMomentByMoment, IsLeftInFormat}

pub formats_begin_worlds : {S : Type 0} (disk : S → Disk) → FormatsBeginWorlds disk
formats_begin_worlds disk keys p drawn word_of old made begun tells empty =
    let all : List Event = events_of (format_notes p) in (
      record { small = begun.small; begins = λ c left. begun.stands word_of c left; stands = λ c left. (1, empty.images tells c left) },
      subst (λ (l : List Event). AreDealt 1 (phases_of (format_notes p)) l) (sym (take_all (length all) all (omega arith))) (dealt_one_by_one 1 (omega arith) (format_notes p)),
      subst (λ (l : List Event). Notes l (disk old).seen (disk made).seen) (sym (take_all (length all) all (omega arith))) empty.seen,
    )

module _ (keys : Keys) (p : Params) (drawn : List ℕ) (many : length drawn ≡ format_words p) (old : Disk) where
  -- the store whose crash leaves this image alone
  abbrev left_as : Image → Disk
  left_as image = record old { may_leave = λ c. c ≡ image }

  begins_in : (image : Image) → Stands keys p (formatted_standing p drawn) image → BeginsIn keys p drawn old image
  begins_in image stands =
      let f : RingFormatted keys p drawn (left_as image) = formats p drawn many keys (left_as image) (λ word_of slot c are same. first_stands keys p word_of slot drawn c are (subst (λ (i : Image). Stands keys p (formatted_standing p drawn) i) (sym same) stands)) in
      let at : StandsRing keys p 1 image beginning = ring_stands keys p (formatted_standing p drawn) image beginning (record { epoch = refl; map = λ k. sym (get-empty nat_cmp k) }) stands in (
        f.slot,
        f.ranked,
        f.of_words,
        λ word_of. record { small = f.small; begins = λ c same. f.stands word_of c same; stands = λ c same. (1, subst (λ (i : Image). StandsRing keys p 1 i beginning) (sym same) at) },
      )

  left_in : (image : Image) → RingFormatLeaves keys p drawn old image → IsLeftInFormat keys p drawn old image
  left_in image (inl torn) = inl torn
  left_in image (inr (inl none)) = inr (inl none)
  left_in image (inr (inr laid)) = inr (inr (λ (head : image 0 ≡ head_cell keys ring_version p). begins_in image (formatted keys p drawn many image laid head)))

pub formats_moment_by_moment : {S : Type 0} (disk : S → Disk) → FormatsMomentByMoment disk
formats_moment_by_moment disk keys p drawn old new many leaves = weakened (disk old) (disk new) (RingFormatLeaves keys p drawn (disk old)) (IsLeftInFormat keys p drawn (disk old)) (left_in keys p drawn many (disk old)) leaves
