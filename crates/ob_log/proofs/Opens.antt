-- The open records among the cells of an area, batch by batch.
use Rattle.std.proofs.Common.{◌≡◌, ◌≢◌, inl, inr, ⊎_elim, ℕ, ◌+◌, ◌*◌, ◌%◌, ◌<◌, ◌≤◌, List, [], ◌∷◌, ◌++◌, take, drop, Result, Ok, Err, length, get_or, sym, ap, ◌∙◌, subst, arith, length-append}
use Rattle.std.proofs.lemmas.Bool.{cases_lt}
use Rattle.std.proofs.lemmas.List.{get_or-take, get_or-drop}
use Rattle.std.proofs.Math.ListN.{get_or-append}
use Rattle.std.proofs.Math.Seq.{get_or-append_seam}
use Rattle.ob_base.specs.declared.params.Params.{Params}
use Rattle.ob_base.specs.declared.fault.Damaged.{Damaged}
use Rattle.ob_base.specs.Layout.{record_cells, log_cell, log_gate}
use Rattle.ob_base.proofs.Bounds.{product_le, record_cells_le}
use Rattle.ob_base.proofs.LayoutLaws.{row_fits}
use Rattle.ob_seal.specs.declared.keys.Keys.{Keys}
use Rattle.ob_seal.specs.Damage.{IsDamage}
use Rattle.ob_store.specs.Disk.{Image}
use Rattle.ob_store.specs.Calls.{Holds}
use Rattle.ob_twin.specs.Bodies.{open_gate}
use Rattle.ob_cells.specs.declared.run.Identity.{Identity}
use Rattle.ob_cells.specs.Runs.{IsRun}
use Rattle.ob_cells.specs.Reads.{IsFirstDamage, expected_at}
use Rattle.ob_log.specs.Logs.{BatchRecord, record_at, nothing}
use Rattle.ob_log.specs.Reads.{IsBody, IsBodyDamage, IsBodyRead, Accepts, AreAccepted, IsFirstBroken, body_cells}

-- ---- the same cells are read as the same

module _ (f g : ℕ → List ℕ) (keys : Keys) (cell : ℕ) where
  run_like : (n : ℕ) (first : Identity) (plain : ℕ → List ℕ) → ((i : ℕ) → i < n → f i ≡ g i) → IsRun keys cell n first plain f → IsRun keys cell n first plain g
  run_like n first plain same run = record {
    generation_fits = run.generation_fits;
    number_fits = run.number_fits;
    sealed_so = λ i lt. sym (same i lt) ∙ run.sealed_so i lt;
  }

  damage_like : (n : ℕ) (d : Damaged) → ((i : ℕ) → i < n → f i ≡ g i) → IsFirstDamage keys cell n f d → IsFirstDamage keys cell n g d
  damage_like n d same at = record {
    at = at.at;
    within = at.within;
    first = at.first;
    plain = at.plain;
    whole = at.whole;
    earlier = run_like at.at at.first at.plain (λ i lt. same i (let w : at.at < n = at.within in omega arith)) at.earlier;
    breaks = subst (λ (l : List ℕ). IsDamage keys (cell + at.at) (expected_at at.first.generation at.first.number at.at) l d) (same at.at at.within) at.breaks;
  }

  module _ (p : Params) (epoch b : ℕ) (same : (i : ℕ) → i < record_cells p → f i ≡ g i) where
    pub body_like : (r : BatchRecord) → IsBody keys p epoch b cell f r → IsBody keys p epoch b cell g r
    body_like r body = record {
      first = body.first;
      bytes = body.bytes;
      body = (body.body.0, run_like (record_cells p) body.first _ same body.body.1);
      whole = body.whole;
      tells = body.tells;
    }

    pub broken_like : (d : Damaged) → IsBodyDamage keys p epoch b cell f d → IsBodyDamage keys p epoch b cell g d
    broken_like d (inl damage) = inl (damage_like (record_cells p) d same damage)
    broken_like d (inr form) = inr (record {
      first = form.first;
      bytes = form.bytes;
      body = (form.body.0, run_like (record_cells p) form.first _ same form.body.1);
      broken = form.broken;
    })

pub area_few : (p : Params) → p.batches * (record_cells p + 1) ≤ 160
area_few p = product_le p.batches (record_cells p + 1) 16 10 p.in_range.few_batches (omega (arith, record_cells_le p))

-- ---- where a batch lies among the cells of its area

module _ (p : Params) (epoch base : ℕ) (cells : List (List ℕ)) (image : Image) (base_is : base ≡ log_cell p (epoch % 2) 0 0) (long : length cells ≡ p.batches * (record_cells p + 1)) (holds : Holds base cells image) where
  in_area : (b i : ℕ) → b < p.batches → i < record_cells p + 1 → b * (record_cells p + 1) + i < length cells
  in_area b i lt li = let h : b * (record_cells p + 1) + i < p.batches * (record_cells p + 1) = row_fits p.batches (record_cells p + 1) b i lt li in omega arith

  cell_at : (b i : ℕ) → b < p.batches → i < record_cells p + 1 → image (log_cell p (epoch % 2) b i) ≡ get_or cells (b * (record_cells p + 1) + i) []
  cell_at b i lt li =
      let at : log_cell p (epoch % 2) b i ≡ base + (b * (record_cells p + 1) + i) = omega arith in
      ap image at ∙ holds (b * (record_cells p + 1) + i) (in_area b i lt li)

  pub gate_at : (b : ℕ) → b < p.batches → image (log_gate p (epoch % 2) b) ≡ get_or cells (b * (record_cells p + 1) + record_cells p) []
  gate_at b lt = cell_at b (record_cells p) lt (omega arith)

  pub body_at : (b : ℕ) (part : List (List ℕ)) → b < p.batches → part ≡ take (record_cells p) (drop (b * (record_cells p + 1)) cells) → (i : ℕ) → i < record_cells p → get_or part i [] ≡ body_cells p epoch b image i
  body_at b part lt is i li =
      let at : log_cell p (epoch % 2) b 0 + i ≡ log_cell p (epoch % 2) b i = omega arith in
      ap (λ (l : List (List ℕ)). get_or l i []) is ∙ get_or-take (record_cells p) (drop (b * (record_cells p + 1)) cells) i [] li ∙ get_or-drop (b * (record_cells p + 1)) cells i []
      ∙ sym (cell_at b i lt (omega arith)) ∙ ap image (sym at)

  pub cell_is : (b cell place : ℕ) → place ≡ b * (record_cells p + 1) → cell ≡ base + place → cell ≡ log_cell p (epoch % 2) b 0
  cell_is b cell place is at = omega arith

  -- what was read of the cells in the list is read of the image
  pub found : (keys : Keys) (b cell place : ℕ) (part : List (List ℕ)) (r : Result BatchRecord Damaged) → b < p.batches → place ≡ b * (record_cells p + 1) → cell ≡ base + place
      → part ≡ take (record_cells p) (drop (b * (record_cells p + 1)) cells) → IsBodyRead keys p epoch b cell (λ i. get_or part i []) r
      → IsBodyRead keys p epoch b (log_cell p (epoch % 2) b 0) (body_cells p epoch b image) r
  found keys b cell place part (Ok r) lt place_is at is read =
      subst (λ n. IsBody keys p epoch b n (body_cells p epoch b image) r) (cell_is b cell place place_is at)
      (body_like (λ i. get_or part i []) (body_cells p epoch b image) keys cell p epoch b (body_at b part lt is) r read)
  found keys b cell place part (Err d) lt place_is at is read =
      subst (λ n. IsBodyDamage keys p epoch b n (body_cells p epoch b image) d) (cell_is b cell place place_is at)
      (broken_like (λ i. get_or part i []) (body_cells p epoch b image) keys cell p epoch b (body_at b part lt is) d read)

-- ---- so many records are open, and accepted

pub record SoFar (keys : Keys) (p : Params) (epoch batch : ℕ) (rs : List BatchRecord) (image : Image) : Type 0 where
  pub many : length rs ≡ batch
  pub opened : (b : ℕ) → b < batch → image (log_gate p (epoch % 2) b) ≡ open_gate
  pub each : (b : ℕ) → b < batch → Accepts keys p epoch b image (record_at rs b)

module _ (keys : Keys) (p : Params) (epoch : ℕ) (image : Image) where
  pub so_far_none : (rs : List BatchRecord) → rs ≡ [] → SoFar keys p epoch 0 rs image
  so_far_none rs none = record { many = ap length none; opened = λ b lt. absurd (omega arith); each = λ b lt. absurd (omega arith) }

  below_next : (P : ℕ → Type 0) (n : ℕ) → ((b : ℕ) → b < n → P b) → P n → (b : ℕ) → b < n + 1 → P b
  below_next P n before here b lt = ⊎_elim (λ (less : b < n). before b less) (λ (ge : n ≤ b). (let is : n ≡ b = omega arith in subst P is here)) (cases_lt b n)

  pub so_far_more : (batch : ℕ) (rs : List BatchRecord) (r : BatchRecord) → SoFar keys p epoch batch rs image → image (log_gate p (epoch % 2) batch) ≡ open_gate → Accepts keys p epoch batch image r
      → SoFar keys p epoch (batch + 1) (rs ++ r ∷ []) image
  so_far_more batch rs r so_far opened here =
      let long : length rs ≡ batch = so_far.many in
      record {
        many = omega (arith, length-append rs (r ∷ []));
        opened = below_next (λ b. image (log_gate p (epoch % 2) b) ≡ open_gate) batch so_far.opened opened;
        each = below_next (λ b. Accepts keys p epoch b image (record_at (rs ++ r ∷ []) b)) batch
            (λ b lt. subst (λ x. Accepts keys p epoch b image x) (sym (get_or-append rs (r ∷ []) nothing b (omega arith))) (so_far.each b lt))
            (subst (λ n. Accepts keys p epoch n image (record_at (rs ++ r ∷ []) n)) long (subst (λ x. Accepts keys p epoch (length rs) image x) (sym (get_or-append_seam rs r [] nothing)) (subst (λ n. Accepts keys p epoch n image r) (sym long) here)));
      }

  -- the next gate is closed,
  pub ends_closed : (batch : ℕ) (rs : List BatchRecord) → SoFar keys p epoch batch rs image → batch < p.batches → image (log_gate p (epoch % 2) batch) ≢ open_gate → AreAccepted keys p epoch rs image
  ends_closed batch rs so_far lt shut =
      let long : length rs ≡ batch = so_far.many in
      record {
        few = omega arith;
        opened = λ b less. so_far.opened b (omega arith);
        ends = λ _. subst (λ n. image (log_gate p (epoch % 2) n) ≢ open_gate) (sym long) shut;
        each = λ b less. so_far.each b (omega arith);
      }

  -- or there is none
  pub ends_all : (batch : ℕ) (rs : List BatchRecord) → SoFar keys p epoch batch rs image → batch ≤ p.batches → p.batches ≤ batch → AreAccepted keys p epoch rs image
  ends_all batch rs so_far le ge =
      let long : length rs ≡ batch = so_far.many in
      record {
        few = omega arith;
        opened = λ b less. so_far.opened b (omega arith);
        ends = λ less. absurd (omega arith);
        each = λ b less. so_far.each b (omega arith);
      }

  -- or it is open, and the body breaks a rule
  pub ends_broken : (batch : ℕ) (rs : List BatchRecord) (d : Damaged) → SoFar keys p epoch batch rs image → batch < p.batches → image (log_gate p (epoch % 2) batch) ≡ open_gate
      → IsBodyDamage keys p epoch batch (log_cell p (epoch % 2) batch 0) (body_cells p epoch batch image) d → IsFirstBroken keys p epoch image d
  ends_broken batch rs d so_far lt opened broken =
      let long : length rs ≡ batch = so_far.many in
      record {
        earlier = rs;
        few = omega arith;
        opened = λ b le. below_next (λ x. image (log_gate p (epoch % 2) x) ≡ open_gate) batch so_far.opened opened b (omega arith);
        each = λ b less. so_far.each b (omega arith);
        breaks = subst (λ n. IsBodyDamage keys p epoch n (log_cell p (epoch % 2) n 0) (body_cells p epoch n image) d) (sym long) broken;
      }
