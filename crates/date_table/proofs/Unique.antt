-- Two results that meet a contract are one. Assumes nothing.
use Rattle.std.proofs.Common.{◌≡◌, ℕ, Bool, List, sym, ◌∙◌}
use Rattle.std.specs.Prelude.{Result}
use Rattle.conic.specs.declared.Conic.{Conic}
use Rattle.date_table.specs.declared.Refusal.{Refusal}
use Rattle.date_table.specs.declared.NotDated.{NotDated}
use Rattle.date_table.specs.All.{AllInto}
use Rattle.date_table.specs.Making.{MadeInto}
use Rattle.date_table.specs.Table.{DatedAt}

pub one_made : {n : ℕ} {c : Conic} {short : Bool} {l : List ℕ} {r r' : Result ℕ Refusal} {l₁ l₁' : List ℕ}
    → MadeInto n c short l r l₁ → MadeInto n c short l r' l₁' → (r ≡ r') × (l₁ ≡ l₁')
one_made a b = (a.answer ∙ sym b.answer, a.table ∙ sym b.table)

pub one_date : {l : List ℕ} {r : ℕ} {d d' : Result ℕ Refusal} → DatedAt l r d → DatedAt l r d' → d ≡ d'
one_date a b = a.answer ∙ sym b.answer

pub one_of_all : {l ts : List ℕ} {r r' : Result (Unit {0}) NotDated} {ts₁ ts₁' : List ℕ} → AllInto l ts r ts₁ → AllInto l ts r' ts₁' → (r ≡ r') × (ts₁ ≡ ts₁')
one_of_all a b = (a.answer ∙ sym b.answer, a.times ∙ sym b.times)
