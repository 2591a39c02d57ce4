-- A vault over an opened store is sound.
use Rattle.ob_stand.proofs.Frames.{stands_all}
use Rattle.ob_twin.proofs.Moves.{settled_image}
use Rattle.ob_store.specs.Images.{IsImageOf}
use Rattle.std.specs.Prelude.{◌≡◌, ◌≤◌, ℕ, suc, false}
use Rattle.std.specs.FinMap as finite
use Rattle.std.specs.Ordering.{nat_cmp}
use Rattle.std.proofs.Common.{arith, refl, sym, ap, subst, inl}
use Rattle.ob_base.specs.declared.params.Params.{Params}
use Rattle.ob_end.specs.EndRuns.{IsEndReady}
use Rattle.ob_fetch.specs.Fetches.{RunIsAt, RunsAt, unlisted}
use Rattle.ob_fetch.proofs.NextLaws.{stands_unlisted}
use Rattle.ob_recover.specs.Fits.{IsPlannerFit}
use Rattle.ob_recover.specs.Repeats.{IsPlannerOf, table_after_records}
use Rattle.ob_stand.specs.Table.{flat_of}
use Rattle.ob_seal.specs.declared.keys.Keys.{Keys}
use Rattle.ob_seal.specs.Sealing.{Sealing}
use Rattle.ob_serial.specs.Serial.{Map}
use Rattle.ob_stand.specs.Stands.{RingStanding, Stands, StandsRing, with_generation}
use Rattle.ob_stand.proofs.VaultLaws.{ring_stands}
use Rattle.ob_store.specs.Disk.{Disk, Image}
use Rattle.ob_opening.specs.declared.opening.Opening.{Opening}
use Rattle.ob_opening.specs.Openings.{IsOpenedAt}
use Rattle.ob_vault.specs.RingVaults.{RingSound, opened_ring, run_over}

module _ {L : Type 0} (keys : Keys) (p : Params) (s : RingStanding) (disk : Disk) (o : Opening L) (tells : disk.tells) (opened : IsOpenedAt keys p s disk o) where
  abbrev then : RingStanding
  then = with_generation s (suc s.generation)

  same_keys : (o.sealer).keys ≡ keys
  same_keys = ap (λ (x : Sealing). x.keys) opened.sealer

  same_generation : (o.sealer).generation ≡ suc s.generation
  same_generation = ap (λ (x : Sealing). x.generation) opened.sealer

  planner : IsPlannerOf p s.content s.records (unlisted o.ring)
  planner = record {
    params = (opened.planner).params;
    table = stands_unlisted o.ring (table_after_records p (flat_of p s.content) s.records) (opened.planner).table;
    entries = (opened.planner).entries;
    seals = record { homes = ((opened.planner).seals).homes; generations = ((opened.planner).seals).generations; bases = ((opened.planner).seals).bases; ranks = ((opened.planner).seals).ranks; order = refl };
    counter = (opened.planner).counter;
    room = (opened.planner).room;
  }

  pub opened_at : RunIsAt (run_over o) then disk
  opened_at = record {
    tells = tells;
    settled = opened.settled;
    stands = subst (λ (k : Keys). Stands k o.params then disk.cells) (sym same_keys) (subst (λ (q : Params). Stands keys q then disk.cells) (sym opened.params) opened.stands);
    runs =
        subst (λ (k : Keys). RunsAt k o.params o.epoch (o.sealer).generation o.left o.ring then disk.cells) (sym same_keys)
        (subst (λ (q : Params). RunsAt keys q o.epoch (o.sealer).generation o.left o.ring then disk.cells) (sym opened.params)
        (record { epoch_is = opened.epoch; generation_is = same_generation; left_are = opened.left; planner = planner; read = opened.read }));
  }

  module _ (content : Map nat_cmp) (map : (k : ℕ) → s.map k ≡ finite.get content k) where
    stands_now : (c : Image) → IsImageOf disk c → StandsRing (o.sealer).keys o.params (o.sealer).generation c (record { epoch = s.epoch; content = content })
    stands_now c image =
        subst (λ (k : Keys). StandsRing k o.params (o.sealer).generation c (record { epoch = s.epoch; content = content })) (sym same_keys)
        (subst (λ (q : Params). StandsRing keys q (o.sealer).generation c (record { epoch = s.epoch; content = content })) (sym opened.params)
        (subst (λ n. StandsRing keys p n c (record { epoch = s.epoch; content = content })) (sym same_generation)
        (ring_stands keys p then c (record { epoch = s.epoch; content = content }) (record { epoch = refl; map = map }) (stands_all keys p then c disk.cells (settled_image disk opened.settled c image) opened.stands))))

    pub opened_sound : RingSound (run_over o) disk (opened_ring o s content)
    opened_sound = record {
      holds = record {
        counts_are = λ i. record { epoch = (sym opened.epoch) i; left = o.left; spent = false };
        batches = refl;
        serves = λ is_serving. record { standing = then; at = opened_at; map = map; no_doubt = refl };
      };
      images = λ c left. (record { epoch = s.epoch; content = content }, stands_now c left, inl refl);
    }

-- what an opening gives is ready for an epoch's end too
pub ready_over : {L : Type 0} (o : Opening L) → (o.ring).p ≡ o.params → o.left ≤ (o.params).batches → IsPlannerFit o.ring → IsEndReady (run_over o)
ready_over o params left fit = let words = o.drawn in record {
  ready = record { params = params; rooms = (o.planned, o.placed); words = omega arith; few = left; small = o.small; generation = o.generation; table = (fit.table, fit.stands) };
  own_words = omega arith;
  all_words = omega arith;
  sheet = o.spelled;
  planner = fit;
}
