-- Lemmas for proofs that use this crate: how many receipts are for a site, and which settled record a record is.
use Rattle.sand_shared.proofs.Common.{◌≡◌, ℕ, ◌+◌, List, [], ◌∷◌, ◌++◌, length, sum_by, refl, subst, arith, sum_by-cons, sum_by-append, PileView, height_of, occurrences, one_at, occurrences-cons, IsSettledRecord, Receipt, receipts_for, receipt, receipts_from, PassView, together, together_all, RecordView, IsOneThreads}
pub use Rattle.sand_shared.proofs.RecordSums.{is_one_threads}

pub receipts_for-append : (a b : List Receipt) (i : ℕ) → receipts_for (a ++ b) i ≡ receipts_for a i + receipts_for b i
receipts_for-append a b i = sum_by-append (λ (r : Receipt). one_at r.site i) a b

-- consecutive drops have as many receipts as their list is long
pub receipts_from-length : (n : ℕ) (drops : List ℕ) → length (receipts_from n drops) ≡ length drops
receipts_from-length n [] = refl
receipts_from-length n (x ∷ xs) = let rest = receipts_from-length (n + 1) xs in omega arith

-- and as many for a site as their list has of it
pub receipts_by_site : (n : ℕ) (drops : List ℕ) (i : ℕ) → receipts_for (receipts_from n drops) i ≡ occurrences drops i
receipts_by_site n [] i = refl
receipts_by_site n (x ∷ xs) i =
    let rest = receipts_by_site (n + 1) xs i in
    let first = sum_by-cons (λ (r : Receipt). one_at r.site i) (receipt n x) (receipts_from (n + 1) xs) in
    let drop = occurrences-cons x xs i in omega arith

-- a record whose history has each site i just d i times is the settled record of its start and these drops
pub record_of_drops : (start : PileView) (r : RecordView) (d : ℕ → ℕ) → IsOneThreads r → r.start ≡ start
    → ((i : ℕ) → occurrences r.history i ≡ d i)
    → IsSettledRecord start.grid (λ i. height_of start i + d i) r.settled
record_of_drops start r d one from each =
    subst (λ (z : PileView × (ℕ → ℕ)). IsSettledRecord z.0.grid (λ i. height_of z.0 i + z.1 i) r.settled)
    (λ k. (from k, (λ i. each i k))) one.settled

-- the receipts of passes joined in order are those of all of them
pub receipts_for-together_all : (p : PassView) (qs : List PassView) (i : ℕ)
    → receipts_for (together_all p qs).receipts i
    ≡ receipts_for p.receipts i + sum_by (λ (q : PassView). receipts_for q.receipts i) qs
receipts_for-together_all p [] i = omega arith
receipts_for-together_all p (q ∷ qs) i =
    let rest = receipts_for-together_all (together p q) qs i in
    let both = receipts_for-append p.receipts q.receipts i in
    let all = sum_by-cons (λ (r : PassView). receipts_for r.receipts i) q qs in omega arith
