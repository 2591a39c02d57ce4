-- What an end answers and draws, by other names of what it begins with.
use Rattle.std.specs.Prelude.{ℕ, List, Err}
use Rattle.std.proofs.Common.{◌≡◌, subst}
use Rattle.ob_base.specs.declared.params.Params.{Params}
use Rattle.ob_base.specs.declared.value.Write.{Write}
use Rattle.ob_end.specs.EndRuns.{EndAnswers, EndDraws}
use Rattle.ob_ring.specs.FlatTable.{FlatTable}
use Rattle.ob_serial.specs.declared.vault.EndErr.{EndErr}
use Rattle.ob_tables.specs.declared.entry.Entry.{Entry}

pub answers_named : (p q : Params) (t u : FlatTable) (epoch epoch' drawn drawn' next next' : ℕ) (ws ws' : List (Write × Entry)) (refused : EndErr) → p ≡ q → t ≡ u → epoch ≡ epoch' → drawn ≡ drawn' → next ≡ next' → ws ≡ ws'
    → EndAnswers p t epoch drawn next ws (Err refused) → EndAnswers q u epoch' drawn' next' ws' (Err refused)
answers_named p q t u epoch epoch' drawn drawn' next next' ws ws' refused params table epochs words seals writes is =
    subst (λ (x : Params). EndAnswers x u epoch' drawn' next' ws' (Err refused)) params
    (subst (λ (x : FlatTable). EndAnswers p x epoch' drawn' next' ws' (Err refused)) table
    (subst (λ (n : ℕ). EndAnswers p t n drawn' next' ws' (Err refused)) epochs
    (subst (λ (n : ℕ). EndAnswers p t epoch n next' ws' (Err refused)) words
    (subst (λ (n : ℕ). EndAnswers p t epoch drawn n ws' (Err refused)) seals
    (subst (λ (l : List (Write × Entry)). EndAnswers p t epoch drawn next l (Err refused)) writes is)))))

pub draws_named : (p q : Params) (t u : FlatTable) (epoch epoch' drawn drawn' : ℕ) (old old' new : List ℕ) (refused : EndErr) → p ≡ q → t ≡ u → epoch ≡ epoch' → drawn ≡ drawn' → old ≡ old'
    → EndDraws p t epoch drawn old new (Err refused) → EndDraws q u epoch' drawn' old' new (Err refused)
draws_named p q t u epoch epoch' drawn drawn' old old' new refused params table epochs words was is =
    subst (λ (x : Params). EndDraws x u epoch' drawn' old' new (Err refused)) params
    (subst (λ (x : FlatTable). EndDraws p x epoch' drawn' old' new (Err refused)) table
    (subst (λ (n : ℕ). EndDraws p t n drawn' old' new (Err refused)) epochs
    (subst (λ (n : ℕ). EndDraws p t epoch n old' new (Err refused)) words
    (subst (λ (l : List ℕ). EndDraws p t epoch drawn l new (Err refused)) was is))))
