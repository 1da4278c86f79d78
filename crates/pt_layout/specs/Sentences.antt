-- What findings print of themselves.
use Rattle.std.specs.Prelude.{ℕ, List, ◌++◌, codes, decimal}
use Rattle.pt_path.specs.Paths.{shown_path}
use Rattle.pt_gpt.specs.declared.table.Side.TheVariants.{Primary, Backup}
use Rattle.pt_gpt.specs.Sentences.{copy_error_sentence}
use Rattle.pt_recover.specs.Sentences.{no_table_sentence}
use Rattle.pt_layout.specs.declared.sound.finding.Finding.{Finding}
use Rattle.pt_layout.specs.declared.sound.finding.Finding.TheVariants.{NoTable, PrimaryCopy, BackupCopy, CopiesDiffer, Alternate}
use Rattle.pt_layout.specs.declared.sound.finding.Finding.TheVariants.{Protective, OutsideUsable, Overlap, OnTable, SameGuid}
use Rattle.pt_layout.specs.declared.sound.finding.Finding.TheVariants.{ForeignLabel}

abbrev pub finding_sentence : Finding → List ℕ
finding_sentence (NoTable why) = codes "there is no table: " ++ no_table_sentence why
finding_sentence (PrimaryCopy error) = codes "the primary copy of the GPT doesn't exist: " ++ copy_error_sentence error
finding_sentence (BackupCopy error) = codes "the backup copy of the GPT doesn't exist: " ++ copy_error_sentence error
finding_sentence CopiesDiffer = codes "the copies of the GPT have different tables"
finding_sentence (Alternate Primary) = codes "the primary header doesn't name the backup's sector"
finding_sentence (Alternate Backup) = codes "the backup header doesn't name the primary's sector"
finding_sentence Protective = codes "sector 0 isn't a protective MBR"
finding_sentence (OutsideUsable path) = shown_path path ++ codes " isn't inside what may hold it"
finding_sentence (Overlap before it) = shown_path before ++ (codes " and " ++ (shown_path it ++ codes " share a sector"))
finding_sentence (OnTable path at) = shown_path path ++ (codes " covers sector " ++ (decimal at.0 ++ codes ", where a table stands"))
finding_sentence (SameGuid lower higher) =
    codes "entries " ++ (decimal lower ++ (codes " and " ++ (decimal higher ++ codes " have one unique GUID")))
finding_sentence (ForeignLabel path) = codes "the second sector of slice " ++ shown_path path ++ codes " holds a foreign label"
