-- What clap's getters return, in terms of the options.
use Rattle.sand_cli.proofs.Common.{common_steps, ◌≡◌, ◌≢◌, ◌∙◌, ℕ, Bool, true, false, cond, Option, Some, None, Result, Ok, Err, codes, refl, sym, ap, arith, ◌+◌, ◌^◌, ◌<◌, ◌≤◌, option_and_then, unwrap_or, option_map_or, bytes_eq, ParsesBool, ParsesUnsigned, true_text, bytes_eq-Decides, ReadsOne, Text, is_unsigned_in, number_of, value_of}
use Rattle.clap.specs.declared.builder.value_parser.ValueParser.TheVariants as parser
use Rattle.clap.proofs.ValueTestLemmas.{Accepts-accepts, accepts-Accepts}

-- a flag's value as a `bool`; false if it has none
pub flag_is : (E : Type 0) (text : Option Text) (r : Option Bool)
    → (text ≡ None → r ≡ None)
    → ((t : Text) → text ≡ Some t → ReadsOne (ParsesBool {E = E}) t r)
    → unwrap_or r false ≡ option_map_or (λ t. bytes_eq t (codes "true")) text false
flag_is E None r none some = ap (λ o. unwrap_or o false) (none refl)
flag_is E (Some t) r none some = go r (some t refl)
  where
    not_true : (b : Bool) → bytes_eq t true_text ≡ b → (t ≢ true_text) → false ≡ b
    not_true true is other = absurd (other ((bytes_eq-Decides t true_text).0 is))
    not_true false is other = refl

    go : (o : Option Bool) → ReadsOne (ParsesBool {E = E}) t o → unwrap_or o false ≡ bytes_eq t (codes "true")
    go (Some true) h = ap (λ x. bytes_eq x (codes "true")) (sym h)
    go (Some false) h = ap (λ x. bytes_eq x (codes "true")) (sym h)
    go None (e, h) = not_true (bytes_eq t true_text) refl h.0

-- a number read as a type of `bits` bits, with `most` the greatest number
pub number_is : (E : Type 0) (G : Text → Result ℕ E → Type 0) (bits most : ℕ) (text : Option Text) (r : Option ℕ)
    → most + 1 ≡ 2 ^ bits → most < 2 ^ 64
    → ((t : Text) (x : Result ℕ E) → G t x → ParsesUnsigned bits 10 t x)
    → (text ≡ None → r ≡ None) → ((t : Text) → text ≡ Some t → ReadsOne G t r)
    → r ≡ option_and_then (number_of most) text
number_is E G bits most None r greatest fits only none some = none refl
number_is E G bits most (Some t) r greatest fits only none some = go r (some t refl)
  where
    reads : (n : ℕ) (b : Bool) → is_unsigned_in 0 most t ≡ b → ParsesUnsigned {E = E} bits 10 t (Ok n)
        → Some n ≡ cond b (Some (value_of t)) None
    reads n true is h = ap (λ m. Some m) h.1
    reads n false is h =
        let high : value_of t < most + 1 = rw greatest h.0.1 in
        let bad : true ≡ false =
        sym (Accepts-accepts false (parser.Unsigned 0 most) t (h.0.0, omega arith, omega arith, omega arith)) ∙ is in
        cc

    fails : (e : E) (b : Bool) → is_unsigned_in 0 most t ≡ b → ParsesUnsigned bits 10 t (Err e)
        → None ≡ cond b (Some (value_of t)) None
    fails e true is h =
        let parts = accepts-Accepts false (parser.Unsigned 0 most) t is in
        let high : value_of t < most + 1 = omega (arith, parts.3) in
        absurd (h (parts.0, rw (sym greatest) high))
    fails e false is h = refl

    go : (o : Option ℕ) → ReadsOne G t o → o ≡ number_of most t
    go (Some n) h = reads n (is_unsigned_in 0 most t) refl (only t (Ok n) h)
    go None (e, h) = fails e (is_unsigned_in 0 most t) refl (only t (Err e) h)

-- a text that passed the parser of an option is a number in the option's range
pub passed_number : (least most bound : ℕ) (text : Text) → most ≤ bound → is_unsigned_in least most text ≡ true
    → (number_of bound text ≡ Some (value_of text)) × (least ≤ value_of text) × (value_of text ≤ most)
passed_number least most bound text wide passes = grind (arith, common_steps, accepts-Accepts, Accepts-accepts)
