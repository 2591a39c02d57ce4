-- An image stands for one thing at most.
use Rattle.std.specs.Prelude.{◌≡◌, ◌≢◌, ◌<◌, ◌≤◌, ℕ, suc, ◌+◌, ◌%◌, ◌^◌, false, List, length, Option, Some, None}
use Rattle.std.specs.Int.{w32, to_le_bytes}
use Rattle.std.specs.FinMap.{same_map, nat_cmp-IsAntisymmetric}
use Rattle.std.proofs.Common.{arith, refl, sym, ap, ◌∙◌, ⊎_elim, subst}
use Rattle.std.proofs.lemmas.Bool.{cases_eq, cases_lt, cases_order, false≢true}
use Rattle.std.specs.Cmp.{nat_cmp_total}
use Rattle.ob_base.specs.declared.params.Params.{Params}
use Rattle.ob_base.specs.Tree.{buckets, width}
use Rattle.ob_base.specs.Layout.{checkpoint_cells, checkpoint_len, check_cell}
use Rattle.ob_store.specs.Disk.{Image}
use Rattle.ob_seal.specs.declared.keys.Keys.{Keys}
use Rattle.ob_seal.specs.Pieces.{onward, piece}
use Rattle.ob_seal.specs.Seals.{sealed}
use Rattle.ob_base.proofs.Spelled.{split_same}
use Rattle.ob_base.proofs.LayoutLaws.{checkpoint_cells_hold}
use Rattle.ob_seal.proofs.Spelling.{sealed_same}
use Rattle.ob_seal.proofs.PieceLaws.{pieces_same, length-piece}
use Rattle.ob_twin.specs.Bodies.{Tagging}
use Rattle.ob_twin.specs.Register.{StandsAt, gate_at, number_at}
use Rattle.ob_twin.specs.Keyed.{tagging}
use Rattle.ob_log.specs.Logs.{OpenRecords, record_at, record_bytes}
use Rattle.ob_log.proofs.OnceLaws.{records_same}
use Rattle.ob_tables.specs.Version.{Version, key_at, rank_at, used_at}
use Rattle.ob_tables.specs.Buckets.{version_at, no_version}
use Rattle.ob_tables.specs.Content.{Content, Obeys}
use Rattle.ob_tables.specs.Spelling.{checkpoint_bytes, slot_bytes, value_bytes}
use Rattle.ob_tables.proofs.TextLaws.{content_once, content_length, value_same}
use Rattle.ob_ring.specs.FlatTable.{Spot, InStash, In, spot_of}
use Rattle.ob_stand.specs.Takes.{is_present}
use Rattle.ob_stand.specs.Values.{Values}
use Rattle.ob_stand.proofs.Planned.{past_none}
use Rattle.ob_stand.specs.Table.{flat_of}
use Rattle.ob_stand.proofs.Reading.{holds}
use Rattle.ob_stand.proofs.Standing.{contents_carry}
use Rattle.ob_serial.specs.Vaults.{Standing}
use Rattle.ob_stand.specs.Stands.{HoldsCheckpoint, HoldsSlots, ring_standing, cell_at}
use Rattle.ob_stand.specs.Once.{StandsOnce, RingStandsOnce, StandsKnown}

-- ---- a register stands at one number

above : (tag : Tagging) (first : ℕ) (image : Image) (m n : ℕ) → StandsAt tag first image m → StandsAt tag first image n → m < n → ⊥
above tag first image m n a b lt = ⊎_elim
    (λ (same : n % 2 ≡ m % 2). (let e : number_at first image (m % 2) ≡ n = ap (number_at first image) (sym same) ∙ b.number in let f : number_at first image (m % 2) ≡ m = a.number in omega arith))
    (λ (ne : n % 2 ≢ m % 2). (
    let q : (m + 1) % 2 ≡ n % 2 = omega arith in
    let under = a.other (ap (λ x. image (gate_at first x)) q ∙ b.open_at) in
    let le : number_at first image ((m + 1) % 2) ≤ m = under.1 in
    let e : number_at first image ((m + 1) % 2) ≡ n = ap (number_at first image) q ∙ b.number in
    omega arith))
    (cases_eq (n % 2) (m % 2))

pub register_once : (tag : Tagging) (first : ℕ) (image : Image) (m n : ℕ) → StandsAt tag first image m → StandsAt tag first image n → m ≡ n
register_once tag first image m n a b = ⊎_elim (λ is. is) (λ other. absurd (⊎_elim (above tag first image m n a b) (above tag first image n m b a) other)) (cases_order m n)

-- ---- an area spells one content

pub content_same : (keys : Keys) (p : Params) (epoch g h : ℕ) (a b : Content) (image : Image) → epoch < 2 ^ 64 → Obeys p a → Obeys p b
    → HoldsCheckpoint keys p epoch g a image → HoldsCheckpoint keys p epoch h b image → a ≡ b
content_same keys p epoch g h a b image low o o' one two =
    let long : length (checkpoint_bytes p epoch a) ≡ checkpoint_len p = content_length p epoch a o in
    let long' : length (checkpoint_bytes p epoch b) ≡ checkpoint_len p = content_length p epoch b o' in
    let bytes : checkpoint_bytes p epoch a ≡ checkpoint_bytes p epoch b = pieces_same (checkpoint_cells p) (checkpoint_bytes p epoch a) (checkpoint_bytes p epoch b) (long ∙ sym long') (omega (arith, checkpoint_cells_hold p)) same in
    (content_once p epoch epoch a b low low o o' bytes).1
  where
    same : (i : ℕ) → i < checkpoint_cells p → piece i (checkpoint_bytes p epoch a) ≡ piece i (checkpoint_bytes p epoch b)
    same i lt = (sealed_same keys (check_cell p (epoch % 2) 0 + i) one.first.generation two.first.generation (onward one.first.number i) (onward two.first.number i)
        (piece i (checkpoint_bytes p epoch a)) (piece i (checkpoint_bytes p epoch b)) one.run.generation_fits two.run.generation_fits (omega arith) (omega arith)
        (length-piece i (checkpoint_bytes p epoch a) ∙ sym (length-piece i (checkpoint_bytes p epoch b))) (sym (one.run.sealed_so i lt) ∙ two.run.sealed_so i lt)).2

-- ---- a content and an image have one map

slot_value : (k : ℕ) (v w : List ℕ) → slot_bytes k v ≡ slot_bytes k w → v ≡ w
slot_value k v w e = value_same 91 v w (split_same (to_le_bytes w32 k) (to_le_bytes w32 k) (value_bytes 91 v) (value_bytes 91 w) refl e).1

none_is : (k : ℕ) (o : Option ℕ) → o ≡ None → o ≡ Some k → ⊥
none_is k o e f = absurd (cc)

-- a key's bucket is one of the tree
pub bucket_low : (p : Params) (c : Content) (u j k : ℕ) → Obeys p c → key_at (version_at c.versions u) j ≡ Some k → u < buckets p
bucket_low p c u j k o at = ⊎_elim (λ (low : u < buckets p). low)
    (λ (high : buckets p ≤ u). absurd (let out : version_at c.versions u ≡ no_version = past_none c.versions no_version u (omega (arith, o.many)) in
    none_is k (key_at (version_at c.versions u) j) (ap (λ (v : Version). key_at v j) out) at))
    (cases_lt u (buckets p))

pub index_low : (p : Params) (c : Content) (u j k : ℕ) → Obeys p c → key_at (version_at c.versions u) j ≡ Some k → j < width p
index_low p c u j k o at = ⊎_elim (λ (low : j < p.real). omega arith)
    (λ (high : p.real ≤ j). absurd (none_is k (key_at (version_at c.versions u) j) (past_none (version_at c.versions u).keys None j (omega (arith, (o.versions u (bucket_low p c u j k o at)).slots.keys))) at))
    (cases_lt j p.real)

module _ (keys : Keys) (p : Params) (c : Content) (m n : Values) (image : Image) (o : Obeys p c) (one : HoldsSlots keys p c m image) (two : HoldsSlots keys p c n image) where
  -- what the slot of a key says
  slots_same : (u j k : ℕ) → key_at (version_at c.versions u) j ≡ Some k → one.slots u j ≡ two.slots u j
  slots_same u j k at =
      let lu : u < buckets p = bucket_low p c u j k o at in
      let lj : j < width p = index_low p c u j k o at in
      let free : used_at (version_at c.versions u) j ≡ false = (o.versions u lu).marks.unshown j k at in
      let here = one.spelled u j lu lj free in
      let that = two.spelled u j lu lj free in
      let fits = o.seals u lu in
      (sealed_same keys (cell_at p u (version_at c.versions u) j) (version_at c.versions u).generation (version_at c.versions u).generation
      (onward (version_at c.versions u).base (rank_at (version_at c.versions u) j)) (onward (version_at c.versions u).base (rank_at (version_at c.versions u) j)) (one.slots u j) (two.slots u j)
      fits.generation fits.generation (omega arith) (omega arith) (here.long ∙ sym that.long) (sym here.spelled ∙ that.spelled)).2

  both_none : (a b : Option (List ℕ)) → is_present a ≡ false → is_present b ≡ false → a ≡ b
  both_none None None x y = refl
  both_none (Some v) b x y = absurd (false≢true (sym x))
  both_none None (Some v) x y = absurd (false≢true (sym y))

  -- a key that lies in a bucket has the value that its slot spells
  in_slot : (k u j : ℕ) (a b : Option (List ℕ)) → m k ≡ a → n k ≡ b → is_present a ≡ is_present b → spot_of ((flat_of p c).rows k) ≡ In u j → a ≡ b
  in_slot k u j None None ea eb same at = refl
  in_slot k u j None (Some w) ea eb same at = absurd (false≢true same)
  in_slot k u j (Some v) None ea eb same at = absurd (false≢true (sym same))
  in_slot k u j (Some v) (Some w) ea eb same at =
      let t = contents_carry p c one.slots m o one.valued in
      let t' = contents_carry p c two.slots n o two.valued in
      let spelled : slot_bytes k v ≡ slot_bytes k w = sym (t.placed k u j v at ea) ∙ slots_same u j k (holds p c k u j at) ∙ t'.placed k u j w at eb in
      ap Some (slot_value k v w spelled)

  at_spot : (k : ℕ) (s : Spot) → spot_of ((flat_of p c).rows k) ≡ s → m k ≡ n k
  at_spot k InStash at = sym ((contents_carry p c one.slots m o one.valued).held k at) ∙ (contents_carry p c two.slots n o two.valued).held k at
  at_spot k (In u j) at =
      let t = contents_carry p c one.slots m o one.valued in
      let t' = contents_carry p c two.slots n o two.valued in
      in_slot k u j (m k) (n k) refl refl (sym (t.keys k) ∙ t'.keys k) at

  pub map_same : (k : ℕ) → m k ≡ n k
  map_same k = at_spot k (spot_of ((flat_of p c).rows k)) refl

-- ---- the laws

pub stands_once : StandsOnce
stands_once keys p a b image one two =
    let epoch : a.epoch ≡ b.epoch = register_once (tagging keys) 5 image a.epoch b.epoch one.epoch two.epoch in
    let check : HoldsCheckpoint keys p a.epoch b.generation b.content image = subst (λ e. HoldsCheckpoint keys p e b.generation b.content image) (sym epoch) two.holds.checkpoint in
    let low = one.epoch.small in
    let content : a.content ≡ b.content = content_same keys p a.epoch a.generation b.generation a.content b.content image (omega arith) one.holds.obeys two.holds.obeys one.holds.checkpoint check in
    let slots : HoldsSlots keys p a.content b.map image = subst (λ c. HoldsSlots keys p c b.map image) (sym content) two.holds.slots in
    record {
      epoch = epoch;
      generation = register_once (tagging keys) 1 image a.generation b.generation one.generation two.generation;
      map = map_same keys p a.content a.map b.map image one.holds.obeys one.holds.slots slots;
      content = content;
      records = records_same keys p (suc a.epoch) a.records b.records image one.holds.log (subst (λ e. OpenRecords keys p (suc e) b.records image) (sym epoch) two.holds.log);
    }

pub ring_stands_once : RingStandsOnce
ring_stands_once keys p g h image a b one two =
    let same = stands_once keys p (ring_standing a g one.content one.records) (ring_standing b h two.content two.records) image one.stands two.stands in
    (same.generation, standing_is a b same.epoch (same_map nat_cmp_total nat_cmp-IsAntisymmetric a.content b.content same.map))
  where
    standing_is : (a b : Standing) → a.epoch ≡ b.epoch → a.content ≡ b.content → a ≡ b
    standing_is a b e c = λ i. record { epoch = e i; content = c i }

-- ---- generations

spelled_at : (keys : Keys) (p : Params) (area i g n : ℕ) (plain : List ℕ) (image : Image) → image (check_cell p area 0 + i) ≡ sealed keys (check_cell p area 0 + i) g n plain → image (check_cell p area i) ≡ sealed keys (check_cell p area i) g n plain
spelled_at keys p area i g n plain image is = let e : check_cell p area 0 + i ≡ check_cell p area i = omega arith in subst (λ c. image c ≡ sealed keys c g n plain) e is

pub stands_known : StandsKnown
stands_known keys p s image stands = record {
  checkpoint = λ i lt. (let h = stands.holds.checkpoint in record {
    generation = h.first.generation;
    number = onward h.first.number i;
    plain = piece i (checkpoint_bytes p s.epoch s.content);
    known = h.known;
    spelled = spelled_at keys p (s.epoch % 2) i h.first.generation (onward h.first.number i) (piece i (checkpoint_bytes p s.epoch s.content)) image (h.run.sealed_so i lt);
  });
  slots = λ u j lu lj free. (let h = stands.holds.slots in record {
    generation = (version_at s.content.versions u).generation;
    number = onward (version_at s.content.versions u).base (rank_at (version_at s.content.versions u) j);
    plain = h.slots u j;
    known = stands.holds.known.seals u;
    spelled = (h.spelled u j lu lj free).spelled;
  });
  bodies = λ b i lb li. record {
    generation = (record_at s.records b).generation;
    number = onward (record_at s.records b).number i;
    plain = piece i (record_bytes (suc s.epoch) (record_at s.records b));
    known = stands.holds.records_known b lb;
    spelled = stands.holds.log.bodies b lb i li;
  };
}
