-- What the words of a command line ask for. Assumes nothing.
--     has_texts p          the program reads texts
--     has_second p         two words may be no options, and not one alone
--     IsOption p w         the word begins with '-', and is more than that where the program reads texts
--     IsPlain p o w        the word is no option, or options have ended
--     IsUnknown p w        an option that the program doesn't have
--     IsSort p o w s       the word is of the sort s
--     Asks p o t a b ws r  r is what the words ws ask for
-- p is what the program takes, o says that options may still come, t that '--text' came, and a and b are the words that came and are no options.
use Rattle.std.specs.Prelude.{◌≡◌, ◌≢◌, ℕ, Bool, true, false, List, [], ◌∷◌, ◌++◌, Some, None, Option, Ok, Err, Result, codes, option_map, IsSome}
use Rattle.std.specs.Borrow.{Bor}
use Rattle.tool.specs.declared.Failure.{Failure}
use Rattle.tool.specs.declared.Failure.TheVariants as failure
use Rattle.tool.specs.declared.Request.{Request}
use Rattle.tool.specs.declared.Request.TheVariants as request
use Rattle.tool.specs.declared.Sort.{Sort}
use Rattle.tool.specs.declared.Sort.TheVariants as sort
use Rattle.tool.specs.declared.Takes.{Takes}
use Rattle.tool.specs.declared.Takes.TheVariants as takes
use Rattle.tool.specs.declared.Words.{Words}

-- '--text' is an option of the program, and '-' a word: standard input
abbrev pub has_texts : Takes → Bool
has_texts takes.Number = false
has_texts takes.NumberOrText = true
has_texts takes.TwoTexts = true

-- a second word may come that is no option
abbrev pub has_second : Takes → Bool
has_second takes.Number = false
has_second takes.NumberOrText = false
has_second takes.TwoTexts = true

pub record IsOption (p : Takes) (w : List ℕ) : Type 0 where
  pub dash : (rest : List ℕ) × (w ≡ codes "-" ++ rest)
  pub more : has_texts p ≡ true → w ≢ codes "-"

abbrev pub IsPlain : Takes → Bool → List ℕ → Type 0
IsPlain p false w = Unit {0}
IsPlain p true w = IsOption p w → ⊥

pub record IsUnknown (p : Takes) (w : List ℕ) : Type 0 where
  pub option : IsOption p w
  pub no_help : w ≢ codes "--help"
  pub no_version : w ≢ codes "--version"
  pub no_end : w ≢ codes "--"
  pub no_text : has_texts p ≡ true → w ≢ codes "--text"

-- what a word is, where options may still come or not
abbrev pub IsSort : Takes → Bool → List ℕ → Sort → Type 0
IsSort p o w sort.Help = (o ≡ true) × (w ≡ codes "--help")
IsSort p o w sort.Version = (o ≡ true) × (w ≡ codes "--version")
IsSort p o w sort.End = (o ≡ true) × (w ≡ codes "--")
IsSort p o w sort.Text = (o ≡ true) × (w ≡ codes "--text") × (has_texts p ≡ true)
IsSort p o w sort.Unknown = (o ≡ true) × IsUnknown p w
IsSort p o w sort.Plain = IsPlain p o w

-- one constructor for each rule; a failure names the word that it speaks of, x
pub data Asks : Takes → (options text : Bool) → (first second : Option (List ℕ)) → List (List ℕ) → Result Request Failure → Type 0 where
  -- no word is left: the words that came
  done :
      {p : Takes} {o t : Bool} {a b : Option (List ℕ)} (words : Words) → words.text ≡ t → option_map (λ x. x.now) words.first ≡ a → option_map (λ x. x.now) words.second ≡ b →
      Asks p o t a b [] (Ok (request.Words words))
  help : {p : Takes} {o t : Bool} {a b : Option (List ℕ)} {w : List ℕ} {ws : List (List ℕ)} → IsSort p o w sort.Help → Asks p o t a b (w ∷ ws) (Ok request.Help)
  version : {p : Takes} {o t : Bool} {a b : Option (List ℕ)} {w : List ℕ} {ws : List (List ℕ)} → IsSort p o w sort.Version → Asks p o t a b (w ∷ ws) (Ok request.Version)
  ends :
      {p : Takes} {o t : Bool} {a b : Option (List ℕ)} {w : List ℕ} {ws : List (List ℕ)} {r : Result Request Failure} →
      IsSort p o w sort.End → Asks p false t a b ws r → Asks p o t a b (w ∷ ws) r
  -- '--text' stands once, before the words that are no options
  text :
      {p : Takes} {o : Bool} {b : Option (List ℕ)} {w : List ℕ} {ws : List (List ℕ)} {r : Result Request Failure} →
      IsSort p o w sort.Text → Asks p o true None b ws r → Asks p o false None b (w ∷ ws) r
  twice :
      {p : Takes} {o : Bool} {a b : Option (List ℕ)} {w : List ℕ} {ws : List (List ℕ)} (x : Bor (List ℕ)) →
      IsSort p o w sort.Text → x.now ≡ w → Asks p o true a b (w ∷ ws) (Err (failure.Twice x))
  late :
      {p : Takes} {o : Bool} {v : List ℕ} {b : Option (List ℕ)} {w : List ℕ} {ws : List (List ℕ)} (x : Bor (List ℕ)) →
      IsSort p o w sort.Text → x.now ≡ v → Asks p o false (Some v) b (w ∷ ws) (Err (failure.Late x))
  unknown :
      {p : Takes} {o t : Bool} {a b : Option (List ℕ)} {w : List ℕ} {ws : List (List ℕ)} (x : Bor (List ℕ)) →
      IsSort p o w sort.Unknown → x.now ≡ w → Asks p o t a b (w ∷ ws) (Err (failure.Unknown x))
  first :
      {p : Takes} {o t : Bool} {b : Option (List ℕ)} {w : List ℕ} {ws : List (List ℕ)} {r : Result Request Failure} →
      IsSort p o w sort.Plain → Asks p o t (Some w) b ws r → Asks p o t None b (w ∷ ws) r
  second :
      {p : Takes} {o t : Bool} {v w : List ℕ} {ws : List (List ℕ)} {r : Result Request Failure} →
      has_second p ≡ true → IsSort p o w sort.Plain → Asks p o t (Some v) (Some w) ws r → Asks p o t (Some v) None (w ∷ ws) r
  extra :
      {p : Takes} {o t : Bool} {v w : List ℕ} {b : Option (List ℕ)} {ws : List (List ℕ)} (x : Bor (List ℕ)) →
      IsSort p o w sort.Plain → (has_second p ≡ true → IsSome b) → x.now ≡ w → Asks p o t (Some v) b (w ∷ ws) (Err (failure.Extra x))
