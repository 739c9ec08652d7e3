-- A file that is fetched with its number.
use Rattle.std.proofs.Common.{◌≡◌, ◌+◌, ◌∙◌, ℕ, List, Option, Some, None, Ok, Err, IfSome, true, false, cond, nat_eq, length, refl, sym, ap, arith}
use Rattle.std.proofs.lemmas.Bool.Decides.{nat_tests}
use Rattle.outside.specs.State.{Files, LibraryState, IsFront}
use Rattle.drivers.specs.declared.driver_parts.fault.DriverFault.TheVariants as f
use Rattle.drivers.specs.driver_files.Reading.{file_refused, file_unread, ◌then◌, ReachesReading, file_reads, if_file_there, file_fetched, if_file_short, short_file, ReadsAs}
use Rattle.drivers.proofs.driver_files.Answering.{told1}

reads-below : (limit : Option ℕ) (file : ℕ) → ReachesReading limit (file + 1) → file_reads limit file ≡ true
reads-below None file reach = refl
reads-below (Some n) file reach = grind (arith, nat_tests)

there : (file : ℕ) (whole : Option (List ℕ)) (bytes : List ℕ) → IsFront whole 67108865 bytes → if_file_there file whole ≡ Ok bytes
there file None bytes front = absurd front
there file (Some whole) bytes front = ap (λ v. Ok v) (sym front)

had : (file : ℕ) (name bytes : List ℕ) (g : Files) (limit : Option ℕ) → file_reads limit file ≡ true → IsFront (g name) 67108865 bytes → file_fetched file name g limit ≡ Ok bytes
had file name bytes g limit r front = ap (λ v. cond v (if_file_there file (g name)) (Err (file_unread file name))) r ∙ there file (g name) bytes front

short : (file : ℕ) (name bytes : List ℕ) (g : Files) (limit : Option ℕ) → file_reads limit file ≡ true → IsFront (g name) 67108865 bytes → nat_eq (length bytes) 67108865 ≡ false → short_file file name g limit ≡ Ok bytes
short file name bytes g limit r front fits =
    ap (λ v. v then if_file_short file) (had file name bytes g limit r front) ∙ ap (λ v. cond v (Err (file_refused (f.TooLong file))) (Ok bytes)) fits

pub fetched-short : (file : ℕ) (name bytes : List ℕ) (old new : LibraryState) → new.files ≡ old.files → new.faults ≡ old.faults → new.absents ≡ old.absents → IfSome old.files (λ g. IsFront (g name) 67108865 bytes) → nat_eq (length bytes) 67108865 ≡ false → ReadsAs (short_file file name) file (λ _. file + 1) old new (Ok bytes)
fetched-short file name bytes old new e a b front fits = record {
  files = e;
  meets = (
    record { faults = a; absents = b },
    omega arith,
    told1 old.files _ _ (λ g x limit reach. short file name bytes g limit (reads-below limit file reach) x fits) front,
  );
}
