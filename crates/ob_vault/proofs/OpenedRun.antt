-- A run over an opening is where the life is.
use Rattle.std.specs.Prelude.{◌≡◌, ℕ, zero, suc, ◌+◌, List, ◌∷◌, length}
use Rattle.std.proofs.Common.{arith, refl, sym, ap, subst, ◌∙◌}
use Rattle.ob_base.specs.declared.params.Params.{Params}
use Rattle.ob_tables.specs.Content.{Content}
use Rattle.ob_recover.specs.Calls.{repeated}
use Rattle.ob_recover.specs.Life.{LifeBatch, LifeState, Open, ShowBatch, WordId, life_step, reached}
use Rattle.ob_log.specs.Logs.{BatchRecord}
use Rattle.ob_recover.specs.Lives.{IsLifeAt}
use Rattle.ob_vault.specs.RingVaults.{run_over}
use Rattle.ob_vault.proofs.Opened.{opened_at}
use Rattle.ob_seal.specs.declared.keys.Keys.{Keys}
use Rattle.ob_stand.specs.Stands.{with_generation}
use Rattle.ob_store.specs.Disk.{Disk, Image}
use Rattle.ob_opening.specs.OpeningActs.{StandsInLife}
use Rattle.ob_opening.specs.Openings.{IsOpenedAt}
use Rattle.ob_opening.specs.declared.opening.Opening.{Opening}
use Rattle.ob_vault.specs.Acts.{AreBatchesSmall, RunsInLife}

-- what an act that shows a batch again leaves as it was
pub record IsFurther (s t : LifeState) (n : ℕ) : Type 0 where
  pub epoch : t.epoch ≡ s.epoch
  pub content : t.content ≡ s.content
  pub log : t.log ≡ s.log
  pub generation : t.generation ≡ s.generation
  pub drawn : t.drawn ≡ s.drawn
  pub begun : t.begun ≡ s.begun + n

module _ (p : Params) (word_of : WordId → ℕ) where
  pub further : (s : LifeState) (n : ℕ) → IsFurther s (reached p word_of s (repeated n)) n
  further s zero = record { epoch = refl; content = refl; log = refl; generation = refl; drawn = refl; begun = omega arith }
  further s (suc n) =
      let f = further (life_step p word_of s ShowBatch) n in
      record { epoch = f.epoch; content = f.content; log = f.log; generation = f.generation; drawn = f.drawn; begun = (let begun = f.begun in omega (arith, begun)) }

  pub moved : (c : Content) (rs : List BatchRecord) (s t : LifeState) (n : ℕ) → IsFurther s t n → IsLifeAt p word_of c rs s → IsLifeAt p word_of c rs t
  moved c rs s t n f life = record {
    table = (λ i. ((f.content) i).table) ∙ life.table;
    slots = λ u j low few. (λ i. ((f.content) i).slot u j) ∙ life.slots u j low few;
    homes = λ u. (λ i. ((f.content) i).home u) ∙ life.homes u;
    book = λ k. (λ i. ((f.content) i).book k) ∙ life.book k;
    kept = life.kept;
    log = f.log ∙ life.log;
    words = life.words;
  }

pub opened_runs : {L : Type 0} (keys : Keys) (p : Params) (word_of : WordId → ℕ) (s : LifeState) (cells : Image) (here : StandsInLife keys p word_of s cells) (disk : Disk) (o : Opening L)
    → AreBatchesSmall s.log → disk.tells → IsOpenedAt keys p here.standing disk o
    → RunsInLife word_of (reached p word_of s (Open (suc (here.standing).generation) ∷ repeated (length s.log))) (run_over o) disk
opened_runs keys p word_of s cells here disk o small tells opened =
    let begun : LifeState = life_step p word_of s (Open (suc (here.standing).generation)) in
    let t : LifeState = reached p word_of begun (repeated (length s.log)) in
    let f = further p word_of begun (length s.log) in
    record {
      standing = with_generation here.standing (suc (here.standing).generation);
      at = opened_at keys p here.standing disk o tells opened;
      epoch = here.epoch ∙ sym f.epoch;
      generation = sym f.generation;
      life = subst (λ (q : Params). IsLifeAt q word_of (here.standing).content (here.standing).records t) (sym opened.params)
          (moved p word_of (here.standing).content (here.standing).records begun t (length s.log) f
          (record { table = (here.life).table; slots = (here.life).slots; homes = (here.life).homes; book = (here.life).book; kept = (here.life).kept; log = (here.life).log; words = (here.life).words }));
      small = subst AreBatchesSmall (sym f.log) small;
      drawn = f.drawn;
      begun = (let shown = f.begun in let many = ap (λ (log : List LifeBatch). length log) f.log in omega (arith, shown, many));
    }
