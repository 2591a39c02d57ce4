-- A vault over a ring store that was just opened, in the words of its kind of store.
use Rattle.std.specs.Ordering.{nat_cmp}
use Rattle.std.proofs.Common.{◌≡◌, ◌∙◌, ◌+◌, ◌*◌, ◌≤◌, ℕ, suc, false, [], length, None, refl, sym, ap, subst, inl, arith, ⊎_elim}
use Rattle.ob_base.specs.Layout.{checkpoint_cells, record_cells}
use Rattle.ob_base.specs.Tree.{buckets, width}
use Rattle.ob_base.specs.declared.params.Params.{Params}
use Rattle.ob_fetch.specs.Fetches.{RunIsAt}
use Rattle.ob_fetch.specs.declared.run.Run.{Run}
use Rattle.ob_recover.specs.declared.found.Found.{Found}
use Rattle.ob_vault.specs.RingVaults.{HasPlanned, RingHolds, Running}
use Rattle.ob_seal.specs.Sealing.{Sealing}
use Rattle.ob_seal.specs.declared.keys.Keys.{Keys}
use Rattle.ob_serial.specs.Serial.{Map}
use Rattle.ob_serial.specs.VaultKinds.{Kind}
use Rattle.ob_serial.specs.Vaults.{VaultState}
use Rattle.ob_stand.specs.Stands.{StandsRing}
use Rattle.ob_store.specs.Disk.{Disk, Image}
use Rattle.ob_vault.proofs.Bounds.{all_left}
use Rattle.ob_vault.specs.Causes.{seals_an_epoch, words_an_epoch}
use Rattle.ob_vault.specs.RingLaws.{RingBeginsSound, RingCallsBegin}
use Rattle.ob_vault.specs.RingKind.{GoesOnFrom, IsRingMap, RingFound, ring_hidden, ring_public}
use Rattle.ob_vault.specs.RingSteps.{RingAt}

-- what a run that serves holds, with this map
abbrev pub held_with : Run → Map nat_cmp → VaultState
held_with run m = record { batches = (run.params).batches; epoch = run.epoch; content = m; left = run.left; spent = false; doubt = None }

-- where a map was found it is held
pub holds_found : (keys : Keys) (p : Params) (f : RingFound) (opened : Disk) (m : Map nat_cmp) → (f.run).spent ≡ false → IsRingMap keys p opened f m → RingHolds f.run opened (held_with f.run m)
holds_found keys p f opened m serving is = record {
  counts_are = λ i. record { epoch = (f.run).epoch; left = (f.run).left; spent = (sym serving) i };
  batches = refl;
  serves = λ is_serving. record { standing = is.standing; at = is.at; map = is.map; no_doubt = refl };
}

module _ {V S : Type 0} (k : Kind V) (disk : S → Disk) (runs : V → Running S) (keys : Keys) (most : ℕ) (p : Params) (found : Found) (f : RingFound) (v : V) (goes : GoesOnFrom keys p found f) (run_is : (runs v).run ≡ f.run) (lanes : (runs v).lanes ≡ most) (many : (1 ≤ most) × (most ≤ 16))
    (planned : HasPlanned f.run f.content f.records) (none : (runs v).drawn ≡ []) (holding : (u : VaultState) → RingHolds f.run (disk (runs v).store) u → k.holds v u) where
  sealed_none : ((f.run).sealer).next ≡ 0
  sealed_none = ap (λ (x : Sealing). x.next) goes.sealer

  words_left : (f.run).drawn + ((f.run).left * p.places + (p.writes + buckets p * width p)) ≤ suc 0 * words_an_epoch p
  words_left = subst (λ d. d + ((f.run).left * p.places + (p.writes + buckets p * width p)) ≤ suc 0 * words_an_epoch p) (sym goes.drawn)
      (all_left (f.run).left (length f.records) p.batches p.places (p.writes + buckets p * width p) goes.left)

  seals_left : ((f.run).sealer).next + ((f.run).left * record_cells p + (buckets p * width p + checkpoint_cells p)) ≤ suc 0 * seals_an_epoch p
  seals_left = subst (λ d. d + ((f.run).left * record_cells p + (buckets p * width p + checkpoint_cells p)) ≤ suc 0 * seals_an_epoch p) (sym sealed_none)
      (all_left (f.run).left (length f.records) p.batches (record_cells p) (buckets p * width p + checkpoint_cells p) goes.left)

  pub ring_begun : RingAt k disk runs keys most p f (disk (runs v).store) (ring_public p f) (ring_hidden f) 0 v
  ring_begun = record {
    params = ap (λ (r : Run). r.params) run_is ∙ goes.params;
    keys_are = ap (λ (r : Run). (r.sealer).keys) run_is ∙ ap (λ (x : Sealing). x.keys) goes.sealer;
    lanes = lanes;
    many = many;
    planned = subst (λ (r : Run). HasPlanned r f.content f.records) (sym run_is) planned;
    known = ap (λ (r : Run). (ring_public p (record { content = f.content; records = f.records; run = r })).known) run_is;
    shown = refl;
    generation = ap (λ (r : Run). (r.sealer).generation) run_is;
    tape = none;
    sealed = ap (λ (r : Run). (r.sealer).next) run_is ∙ sealed_none;
    left = ap (λ (r : Run). r.left + length f.records) run_is ∙ goes.left;
    epoch = ap (λ (r : Run). r.epoch) run_is ∙ none_more (f.run).epoch;
    epoch_hidden = ap (λ (r : Run). r.epoch) run_is;
    words = subst (λ (r : Run). r.drawn + (r.left * p.places + (p.writes + buckets p * width p)) ≤ suc 0 * words_an_epoch p) (sym run_is) words_left;
    seals = subst (λ (r : Run). (r.sealer).next + (r.left * record_cells p + (buckets p * width p + checkpoint_cells p)) ≤ suc 0 * seals_an_epoch p) (sym run_is) seals_left;
    held = λ m is. (held_with f.run m, holding (held_with f.run m) (holds_found keys p f (disk (runs v).store) m goes.serving is), refl);
    stands = λ m is. record { standing = is.standing; content = is.content; records = is.records; at = subst (λ (r : Run). RunIsAt r is.standing (disk (runs v).store)) (sym run_is) is.at };
  }
    where
      none_more : (i : ℕ) → i ≡ i + 0
      none_more i = omega arith

pub ring_calls_begin : {V S : Type 0} (k : Kind V) (disk : S → Disk) → RingCallsBegin k disk
ring_calls_begin k disk runs keys most p found f v goes run_is lanes many planned none holding = ring_begun k disk runs keys most p found f v goes run_is lanes many planned none holding

-- where the store stood, it is sound
pub ring_begins_sound : {S : Type 0} (disk : S → Disk) → RingBeginsSound disk
ring_begins_sound disk keys p f at opened serving is = record {
  holds = record {
    counts_are = λ i. record { epoch = (sym is.epoch) i; left = (f.run).left; spent = (sym serving) i };
    batches = sym (ap (λ (x : Params). x.batches) (is.content).params);
    serves = λ is_serving. record { standing = (is.content).standing; at = (is.content).at; map = (is.content).map; no_doubt = refl };
  };
  images = λ c image. (at, as_run c (⊎_elim (λ left. is.images c left) (λ read. subst (λ (i : Image). StandsRing keys p ((f.run).sealer).generation i at) (sym read.1) is.stands) image), inl refl);
}
  where
    as_run : (c : Image) → StandsRing keys p ((f.run).sealer).generation c at → StandsRing ((f.run).sealer).keys (f.run).params ((f.run).sealer).generation c at
    as_run c stands = subst (λ (x : Keys). StandsRing x (f.run).params ((f.run).sealer).generation c at) (sym (is.content).keys_are)
        (subst (λ (x : Params). StandsRing keys x ((f.run).sealer).generation c at) (sym (is.content).params) stands)
