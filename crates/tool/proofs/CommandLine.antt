-- What the words of a command line ask for, word by word. Assumes nothing.
use Rattle.std.proofs.Common.{◌≡◌, ℕ, ◌+◌, ◌<◌, ◌≤◌, Bool, true, false, List, [], ◌∷◌, map, drop, length, get_or, Some, None, Err, Option, Result, option_map, string_bytes, String, add-one, drop-cons, refl, Bor}
use Rattle.std.proofs.Math.ListN.{drop_of_length-le}
use Rattle.std.specs.declared.alloc.Global.{Global}
use Rattle.tool.specs.declared.Failure.{Failure}
use Rattle.tool.specs.declared.Request.{Request}
use Rattle.std.specs.Option.{is_some}
use Rattle.tool.specs.declared.Failure.TheVariants as failure
use Rattle.tool.specs.declared.Takes.{Takes}
use Rattle.tool.specs.Asked.{has_second, IsPlain, Asks}
use Rattle.tool.specs.Asked as asked

-- the words that are left begin with this one
pub next :
    {p : Takes} {o t : Bool} {a b : Option (List ℕ)} {r : Result Request Failure} (ws : List (String Global)) (i : ℕ) (x : String Global) (w : List ℕ) →
    i < length ws → x ≡ get_or ws i x → w ≡ string_bytes x → Asks p o t a b (w ∷ map string_bytes (drop (i + 1) ws)) r →
    Asks p o t a b (map string_bytes (drop i ws)) r
next ws i x w l is e h = rw (drop-cons ws i x l, ← is, ← e) (rw add-one at h)

-- none is left
pub no_more :
    {p : Takes} {o t : Bool} {a b : Option (List ℕ)} {r : Result Request Failure} (ws : List (String Global)) (i : ℕ) →
    length ws ≤ i → Asks p o t a b [] r → Asks p o t a b (map string_bytes (drop i ws)) r
no_more ws i l h = rw (drop_of_length-le ws l) h

-- a word that is no option, by what came before it
pub first_word :
    {p : Takes} {o t : Bool} {b : Option (List ℕ)} {ws : List (List ℕ)} {r : Result Request Failure} (a : Option (Bor (List ℕ))) (w : Bor (List ℕ)) →
    is_some a ≡ false → IsPlain p o w.now → Asks p o t (Some w.now) b ws r → Asks p o t (option_map (λ x. x.now) a) b (w.now ∷ ws) r
first_word None w none plain h = asked.first plain h
first_word (Some v) w none plain h = absurd (cc none)

pub second_word :
    {p : Takes} {o t : Bool} {ws : List (List ℕ)} {r : Result Request Failure} (a b : Option (Bor (List ℕ))) (w : Bor (List ℕ)) →
    is_some a ≡ true → is_some b ≡ false → has_second p ≡ true → IsPlain p o w.now → Asks p o t (option_map (λ x. x.now) a) (Some w.now) ws r →
    Asks p o t (option_map (λ x. x.now) a) (option_map (λ x. x.now) b) (w.now ∷ ws) r
second_word None b w first second two plain h = absurd (cc first)
second_word (Some v) None w first second two plain h = asked.second two plain h
second_word (Some v) (Some u) w first second two plain h = absurd (cc second)

pub extra_word :
    {p : Takes} {o t : Bool} {ws : List (List ℕ)} (a b : Option (Bor (List ℕ))) (w : Bor (List ℕ)) →
    is_some a ≡ true → (has_second p ≡ true → is_some b ≡ true) → IsPlain p o w.now →
    Asks p o t (option_map (λ x. x.now) a) (option_map (λ x. x.now) b) (w.now ∷ ws) (Err (failure.Extra w))
extra_word None b w first full plain = absurd (cc first)
extra_word (Some v) None w first full plain = asked.extra w plain (λ two. absurd (let f = full two in cc)) refl
extra_word (Some v) (Some u) w first full plain = asked.extra {b = Some u.now} w plain (λ two. refl) refl
