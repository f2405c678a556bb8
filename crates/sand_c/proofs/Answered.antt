-- What an export returns, given how its call ended.
use Rattle.sand_c.proofs.Common.{◌≡◌, ℕ, refl, inl, inr, ◌↔◌, Result, Ok, Err, IsOk, IfErr, OnOk, Fault, Fails, Answers, Returns}
use Rattle.sand_c.specs.declared.faults.Fault.TheVariants.{Memory}
use Rattle.sand_c.specs.Faults.{number_of}

refused : {A : Type 0} (fault : Fault) (n : ℕ) (meaning : Result A Fault) → n ≡ number_of fault → Fails fault meaning
    → Answers n meaning
refused Memory n (Ok x) is fails = inr is
refused Memory n (Err e) is fails = absurd (cc)
refused fault n meaning is fails = rw fails is

pub answered : {U A : Type 0} (outcome : Result U Fault) (n : ℕ) (meaning : Result A Fault)
    → (IsOk outcome ↔ (n ≡ 0)) → IfErr outcome (λ e. n ≡ number_of e)
    → OnOk outcome (IsOk meaning) → IfErr outcome (λ e. Fails e meaning) → Answers n meaning
answered (Ok u) n (Ok x) ok is meant fails = inl (ok.0 refl)
answered (Ok u) n (Err e) ok is meant fails = absurd (cc)
answered (Err fault) n meaning ok is meant fails = refused fault n meaning is fails

-- the same, of a call that needs no memory
pub returned : {U A : Type 0} (outcome : Result U Fault) (n : ℕ) (meaning : Result A Fault)
    → (IsOk outcome ↔ (n ≡ 0)) → IfErr outcome (λ e. n ≡ number_of e)
    → OnOk outcome (IsOk meaning) → IfErr outcome (λ e. meaning ≡ Err e) → Returns n meaning
returned (Ok u) n (Ok x) ok is meant fails = ok.0 refl
returned (Ok u) n (Err e) ok is meant fails = absurd (cc)
returned (Err fault) n meaning ok is meant fails = rw fails is
