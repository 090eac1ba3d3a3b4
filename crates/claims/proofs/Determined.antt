-- A contract that gives a result as a definition of the arguments admits one result: the one lemma behind every 'no second outcome', but that of log-gamma's
-- enum, whose cases are read by their number and values first (`one-case` of crate gamma_ln). Assumes nothing.
use mathlib.Core.Path.{◌≡◌, sym, ap₂, ◌∙◌}

-- no two things meet P
abbrev pub Determined : {A : Type 0} → (A → Type 0) → Type 0
Determined {A} P = (a b : A) → P a → P b → a ≡ b

-- what a function returns, and what it leaves in the list that it was lent
pub record Returned (A B : Type 0) : Type 0 where
  pub result : A
  pub left : B

-- both given by equations
abbrev pub Gives : {A B : Type 0} → A → B → Returned A B → Type 0
Gives o c p = (p.result ≡ o) × (p.left ≡ c)

module _ {A : Type 0} where
  pub one-result : (o : A) → Determined (λ (a : A). a ≡ o)
  one-result o a b p q = p ∙ sym q

module _ {A B : Type 0} where
  abbrev returned : A → B → Returned A B
  returned a b = record { result = a; left = b }

  pub one-outcome : (o : A) (c : B) → Determined (Gives o c)
  one-outcome o c p q e f = ap₂ returned (one-result o p.result q.result e.0 f.0) (one-result c p.left q.left e.1 f.1)
