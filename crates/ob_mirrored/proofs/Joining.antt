-- A mirror that was joined stands where the first half stood.
use Rattle.std.proofs.Common.{◌≡◌, ◌<◌, ◌%◌, ◌⊎◌, ℕ, suc, ⊎_elim, sym, subst, arith}
use Rattle.ob_base.specs.Layout.{AtLog, AtSlot, CheckArea, record_cells, ring_cells}
use Rattle.ob_base.proofs.LayoutLaws.{cell_within, regions_within}
use Rattle.ob_base.specs.declared.params.Params.{Params}
use Rattle.ob_seal.specs.declared.keys.Keys.{Keys}
use Rattle.ob_serial.specs.Vaults.{Standing}
use Rattle.ob_stand.specs.Spare.{SameReads}
use Rattle.ob_stand.specs.Stands.{RingStanding}
use Rattle.ob_stand.specs.Stands as ring
use Rattle.ob_stand.proofs.Frames.{stands_frame}
use Rattle.ob_store.specs.Disk.{Disk, Image}
use Rattle.ob_store.specs.Lines.{Trace}
use Rattle.ob_tables.specs.Buckets.{version_at}
use Rattle.ob_tables.specs.Version.{rank_at}
use Rattle.ob_vault.specs.Kinds.{Stands}
use Rattle.ob_vault.specs.RingKind.{ring_kind}
use Rattle.ob_vault.proofs.Standing.{ring_keeps}
use Rattle.ob_top.specs.Headline.{Stood}
use Rattle.ob_top.specs.Outside.{Given}
use Rattle.ob_top.specs.Pasts.{LeadsToAt, PastLife}
use Rattle.ob_mirrored.specs.Over.{AreJoined}

-- what is read of an image lies in the store's cells
module _ (keys : Keys) (p : Params) (s : RingStanding) (a b : Image) (same : (k : ℕ) → k < ring_cells p → a k ≡ b k) (stands : ring.Stands keys p s b) where
  reads_below : SameReads p s a b
  reads_below = record {
    generation = λ c lo hi. same c (omega arith);
    epoch = λ c lo hi. same c (omega arith);
    rest = record {
      head = same 0 (omega arith);
      checkpoint = λ c lies. same c (regions_within p (CheckArea (s.epoch % 2)) c (omega arith) lies);
      slots = λ u j lu lj free. (
          let o = stands.holds.obeys.versions u lu in
          same _ (cell_within p (AtSlot (version_at s.content.versions u).home u (rank_at (version_at s.content.versions u) j)) (o.home, lu, (let low = o.ranks.low j (omega (arith, o.slots.ranks)) in omega (arith, o.slots.ranks)))));
    };
    log = record {
      gates = λ n lt. same _ (cell_within p (AtLog (suc s.epoch % 2) n (record_cells p)) (omega arith, lt, omega arith));
      bodies = λ n i lt li. same _ (cell_within p (AtLog (suc s.epoch % 2) n i) (omega arith, (let few = stands.holds.log.few in omega arith), omega arith));
    };
  }

  pub stands_below : ring.Stands keys p s a
  stands_below = stands_frame keys p s a b reads_below stands

module _ (keys : Keys) (p : Params) where
  kind_below : (a b : Image) (at : Standing) → ((k : ℕ) → k < ring_cells p → a k ≡ b k) → Stands ring_kind keys p b at → Stands ring_kind keys p a at
  kind_below a b at same (g, is) = (g, record { content = is.content; records = is.records; stands = stands_below keys p (ring.ring_standing at g is.content is.records) a b same is.stands })

  leads_below : (past : PastLife) (a b : Image) (at : Standing) → ((k : ℕ) → k < ring_cells p → a k ≡ b k) → LeadsToAt keys p past at b → LeadsToAt keys p past at a
  leads_below past a b at same leads = record {
    stands = kind_below a b at same leads.stands;
    there = record {
      standing = leads.there.standing;
      stands = stands_below keys p leads.there.standing a b same leads.there.stands;
      epoch = leads.there.epoch;
      generation = leads.there.generation;
      life = leads.there.life;
    };
  }

module _ {X A B : Type 0} (disk : X → Disk) (first_of : X → A) (second_of : X → B) (one : A → Disk) (two : B → Disk)
    (leaves : (x : X) → (one (first_of x)).leaves → (two (second_of x)).leaves → (disk x).leaves) (cells : (x : X) → (disk x).cells ≡ (one (first_of x)).cells)
    (images : (x : X) (c : Image) → (disk x).may_leave c → (one (first_of x)).may_leave c ⊎ (two (second_of x)).may_leave c) where
  module _ (keys : Keys) (p : Params) (at : Standing) (past : PastLife) (tape : Given) (a : A) (b : B) (x : X) (stood : Stood one keys p at past tape a) where
    stood_with : (t u : Trace) → AreJoined keys p one a (first_of x) (two b) (two (second_of x)) t u → (two b).tells → (two b).leaves → (disk x).tells → Stood disk keys p at past tape x
    stood_with t u joined tells leave all =
        let was = (one a).cells in
        let now = (one (first_of x)).cells in
        let kept : (k : ℕ) → k < ring_cells p → now k ≡ was k = λ k lt. joined.first.keeps.cells stood.tells.0 k in
        let told = joined.first.keeps.tells stood.tells.0 in
        record {
          tells = (all, leaves x (joined.first.goes.leaves.0 stood.tells.1) (joined.second.leaves.0 leave));
          sound = λ c left. ⊎_elim
              (λ l. let (d, before, same) = joined.first.passes.now c l in let (s, is) = stood.sound d before in (s, subst (λ (i : Image). Stands ring_kind keys p i s) (sym same) is))
              (λ r. (at, kind_below keys p c now at (λ k lt. joined.copied.images told (joined.second_tells tells) c r k lt) (kind_below keys p now was at kept stood.is_at.stands)))
              (images x c left);
          is_past = stood.is_past;
          is_at = subst (λ (i : Image). LeadsToAt keys p past at i) (sym (cells x)) (leads_below keys p past now was at kept stood.is_at);
          words = stood.words;
        }

    pub stood_joined : (q : Params) (t u : Trace) → AreJoined keys q one a (first_of x) (two b) (two (second_of x)) t u → (two b).tells → (two b).leaves → (disk x).tells → Stood disk keys p at past tape x
    stood_joined q t u joined = subst (λ (r : Params). AreJoined keys r one a (first_of x) (two b) (two (second_of x)) t u → (two b).tells → (two b).leaves → (disk x).tells → Stood disk keys p at past tape x)
        (sym (ring_keeps.one_head keys q p ((one a).cells 0) (joined.head.head stood.tells.0) (let (g, is) = stood.is_at.stands in ring_keeps.has_head keys p g (one a).cells at is))) (stood_with t u) joined
