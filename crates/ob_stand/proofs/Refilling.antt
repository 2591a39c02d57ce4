-- What a refill makes of the values.
use Rattle.std.specs.Prelude.{◌≡◌, ℕ, false, List, [], Option, unwrap_or}
use Rattle.std.proofs.Common.{arith, sym, ap, ◌∙◌, inl, inr}
use Rattle.std.proofs.lemmas.Bool.{true≢false, cases_Bool}
use Rattle.ob_tables.specs.Version.{EMPTY}
use Rattle.ob_ring.specs.FlatTable.{FlatTable, Spot, InStash, In, Refill, spot_of, refill_order, after}
use Rattle.ob_ring.specs.Plain.{row_plain}
use Rattle.ob_stand.specs.Refilled.{RefillCarries, PlainIsSpelled}
use Rattle.ob_stand.proofs.Moving.{fills_present, fills_stash, refill_move}
use Rattle.ob_stand.proofs.Spelling.{plain_is_spelled}

same_bucket : (s : Spot) (u j v i : ℕ) → s ≡ In u j → s ≡ In v i → u ≡ v
same_bucket s u j v i e f = let x : In u j ≡ In v i = sym e ∙ f in cc

pub stash_not : (s : Spot) (u j : ℕ) → s ≡ InStash → s ≡ In u j → ⊥
stash_not s u j e f = let x : InStash ≡ In u j = sym e ∙ f in absurd (cc)

pub refill_carries : RefillCarries
refill_carries p t rows rows' slots slots' m o c r =
    let t' : FlatTable = after p t Refill in
    let standing : (k u j : ℕ) → spot_of (t.rows k) ≡ In u j → t.lifted u ≡ false = λ k u j e. ((o.sound).placed k u j e).standing in
    record {
      low = λ k e. c.low k (sym (fills_present p t (refill_order p t) k) ∙ e);
      keys = λ k. fills_present p t (refill_order p t) k ∙ c.keys k;
      short = c.short;
      held = λ k e. r.kept k (λ u j up at. stash_not (spot_of ((after p t Refill).rows k)) u j e at) ∙ c.held k (fills_stash p t (refill_order p t) k e);
      others = λ k u j e. elim (cases_Bool (t.lifted u)) [
        | inl up ↦ r.gone k u j up e
        | inr down ↦ elim (refill_move p t k u j e) [
          | inl now ↦ absurd (true≢false (sym now.0 ∙ down))
          | inr was ↦ r.kept k (λ v i up at. true≢false (sym up ∙ ap t.lifted (same_bucket (spot_of ((after p t Refill).rows k)) v i u j at e) ∙ down)) ∙ c.others k u j was
        ]
      ];
      placed = λ k u j value e is. elim (refill_move p t k u j e) [
        | inl now ↦ r.written k u j now.0 e
            ∙ ap (λ (x : Option (List ℕ)). row_plain k (unwrap_or x [])) (c.held k now.1 ∙ is)
            ∙ plain_is_spelled k value (c.short k value is)
        | inr was ↦ r.same k u j (standing k u j was) e ∙ c.placed k u j value was is
      ];
    }

pub plains_are_spelled : PlainIsSpelled
plains_are_spelled = record {
  none = λ rows. plain_is_spelled EMPTY [] (omega arith);
  some = λ rows k value is short. ap (λ (x : Option (List ℕ)). row_plain k (unwrap_or x [])) is ∙ plain_is_spelled k value short;
}
