-- The table of partition types.
use Prim.Native.String.{String}
use Rattle.std.specs.Prelude.{ℕ, List, [], ◌∷◌, ◌++◌, Option, Some, None, codes}

-- a type of an entry of a GPT: its name, its code where it has one, and its GUID's text
pub record EntryRow : Type 0 where
  pub name : List ℕ
  pub code : Option ℕ
  pub guid : List ℕ

-- a type of a record of an MBR: its name and its number (OSType)
pub record RecordRow : Type 0 where
  pub name : List ℕ
  pub kind : ℕ

abbrev pub gpt : String → Option ℕ → String → EntryRow
gpt name code guid = record { name = codes name; code = code; guid = codes guid }

abbrev pub mbr : String → ℕ → RecordRow
mbr name kind = record { name = codes name; kind = kind }

-- ## The types of a GPT. Of two rows with one GUID the first one has its printed name.

-- what boots, and Linux
abbrev pub general_rows : List EntryRow
general_rows =
    gpt "esp" (Some 0xEF00) "c12a7328-f81f-11d2-ba4b-00a0c93ec93b"
    ∷ gpt "mbr-scheme" (Some 0xEF01) "024dee41-33e7-11d3-9d69-0008c781f39f"
    ∷ gpt "bios-boot" (Some 0xEF02) "21686148-6449-6e6f-744e-656564454649"
    ∷ gpt "prep" (Some 0x4100) "9e1a2d38-c612-4316-aa26-8b49521e5a8b"
    ∷ gpt "onie-boot" (Some 0x3000) "7412f7d5-a156-4b13-81dc-867174929325"
    ∷ gpt "onie-config" (Some 0x3001) "d4e6e2cd-4469-46f3-b5cb-1bff57afc149"
    ∷ gpt "intel-rapid-start" (Some 0x8400) "d3bfe2de-3daf-11df-ba40-e3a556d89593"
    ∷ gpt "sony-boot" (Some 0xED00) "f4019732-066e-4e12-8273-346c5641494f"
    ∷ gpt "lenovo-boot" (Some 0xED01) "bfbfafe7-a34f-448a-9a5b-6213eb736c22"
    ∷ gpt "u-boot" (Some 0xB000) "3de21764-95bd-54bd-a5c3-4abe786f38a8"
    ∷ gpt "barebox" (Some 0xBB00) "4778ed65-bf42-45fa-9c5b-287a1dc4aab1"
    ∷ gpt "xbootldr" (Some 0xEA00) "bc13c2ff-59e6-4262-a352-b275fd6f7172"
    ∷ gpt "linux-generic" (Some 0x8300) "0fc63daf-8483-4772-8e79-3d69d8477de4"
    ∷ gpt "swap" (Some 0x8200) "0657fd6d-a4ab-43c4-84e5-0933c84b4f4f"
    ∷ gpt "home" (Some 0x8302) "933ac7e1-2eb4-4f13-b844-0e14e2aef915"
    ∷ gpt "srv" (Some 0x8306) "3b8f8425-20e0-4f3b-907f-1a25a76f98e8"
    ∷ gpt "var" (Some 0x8310) "4d21b016-b534-45c2-a9fb-5c16e091fd2d"
    ∷ gpt "tmp" (Some 0x8311) "7ec6f557-3bc5-4aca-b293-16ef5df639d1"
    ∷ gpt "user-home" (Some 0x8312) "773f91ef-66d4-49b5-bd83-d683bf40ad16"
    ∷ gpt "lvm" (Some 0x8E00) "e6d6d379-f507-44c2-a23c-238f2a3df928"
    ∷ gpt "raid" (Some 0xFD00) "a19d880f-05fc-4d3b-a006-743f0f84911e"
    ∷ gpt "linux-reserved" (Some 0x8301) "8da63339-0007-60c0-c436-083ac8230908"
    ∷ gpt "dm-crypt" (Some 0x8308) "7ffec5c9-2d00-49b7-8941-3ea10a5586b7"
    ∷ gpt "luks" (Some 0x8309) "ca7d7ccb-63ed-4c53-861c-1742536059cc"
    ∷ []

-- root file systems, with the hashes of dm-verity and their signatures, by architecture
abbrev pub root_rows : List EntryRow
root_rows =
    gpt "root-alpha" None "6523f8ae-3eb1-4e2a-a05a-18b695ae656f"
    ∷ gpt "root-arc" None "d27f46ed-2919-4cb8-bd25-9531f3c16534"
    ∷ gpt "root-arm" (Some 0x8307) "69dad710-2ce4-4e3c-b16c-21a1d49abed3"
    ∷ gpt "root-arm64" (Some 0x8305) "b921b045-1df0-41c3-af44-4c6f280d3fae"
    ∷ gpt "root-ia64" (Some 0x830A) "993d8d3d-f80e-4225-855a-9daf8ed7ea97"
    ∷ gpt "root-loongarch64" None "77055800-792c-4f94-b39a-98c91b762bb6"
    ∷ gpt "root-mips-le" None "37c58c8a-d913-4156-a25f-48b1b64e07f0"
    ∷ gpt "root-mips64-le" None "700bda43-7a34-4507-b179-eeb93d7a7ca3"
    ∷ gpt "root-ppc" None "1de3f1ef-fa98-47b5-8dcd-4a860a654d78"
    ∷ gpt "root-ppc64" None "912ade1d-a839-4913-8964-a10eee08fbd2"
    ∷ gpt "root-ppc64-le" None "c31c45e6-3f39-412e-80fb-4809c4980599"
    ∷ gpt "root-riscv32" None "60d5a7fe-8e7d-435c-b714-3dd8162144e1"
    ∷ gpt "root-riscv64" None "72ec70a6-cf74-40e6-bd49-4bda08e8f224"
    ∷ gpt "root-s390" None "08a7acea-624c-4a20-91e8-6e0fa67d23f9"
    ∷ gpt "root-s390x" None "5eead9a9-fe09-4a1e-a1d7-520d00531306"
    ∷ gpt "root-tilegx" None "c50cdd70-3862-4cc3-90e1-809a8c93ee2c"
    ∷ gpt "root-x86" (Some 0x8303) "44479540-f297-41b2-9af7-d131d5f0458a"
    ∷ gpt "root-x86-64" (Some 0x8304) "4f68bce3-e8cd-4db1-96e7-fbcaf984b709"
    ∷ gpt "root-alpha-verity" None "fc56d9e9-e6e5-4c06-be32-e74407ce09a5"
    ∷ gpt "root-arc-verity" None "24b2d975-0f97-4521-afa1-cd531e421b8d"
    ∷ gpt "root-arm-verity" (Some 0x830D) "7386cdf2-203c-47a9-a498-f2ecce45a2d6"
    ∷ gpt "root-arm64-verity" (Some 0x830E) "df3300ce-d69f-4c92-978c-9bfb0f38d820"
    ∷ gpt "root-ia64-verity" (Some 0x830F) "86ed10d5-b607-45bb-8957-d350f23d0571"
    ∷ gpt "root-loongarch64-verity" None "f3393b22-e9af-4613-a948-9d3bfbd0c535"
    ∷ gpt "root-mips-le-verity" None "d7d150d2-2a04-4a33-8f12-16651205ff7b"
    ∷ gpt "root-mips64-le-verity" None "16b417f8-3e06-4f57-8dd2-9b5232f41aa6"
    ∷ gpt "root-ppc-verity" None "98cfe649-1588-46dc-b2f0-add147424925"
    ∷ gpt "root-ppc64-verity" None "9225a9a3-3c19-4d89-b4f6-eeff88f17631"
    ∷ gpt "root-ppc64-le-verity" None "906bd944-4589-4aae-a4e4-dd983917446a"
    ∷ gpt "root-riscv32-verity" None "ae0253be-1167-4007-ac68-43926c14c5de"
    ∷ gpt "root-riscv64-verity" None "b6ed5582-440b-4209-b8da-5ff7c419ea3d"
    ∷ gpt "root-s390-verity" None "7ac63b47-b25c-463b-8df8-b4a94e6c90e1"
    ∷ gpt "root-s390x-verity" None "b325bfbe-c7be-4ab8-8357-139e652d2f6b"
    ∷ gpt "root-tilegx-verity" None "966061ec-28e4-4b2e-b4a5-1f0a825a1d84"
    ∷ gpt "root-x86-verity" (Some 0x830B) "d13c5d3b-b5d1-422a-b29f-9454fdc89d76"
    ∷ gpt "root-x86-64-verity" (Some 0x830C) "2c7357ed-ebd2-46d9-aec1-23d437ec2bf5"
    ∷ gpt "root-alpha-verity-sig" None "d46495b7-a053-414f-80f7-700c99921ef8"
    ∷ gpt "root-arc-verity-sig" None "143a70ba-cbd3-4f06-919f-6c05683a78bc"
    ∷ gpt "root-arm-verity-sig" None "42b0455f-eb11-491d-98d3-56145ba9d037"
    ∷ gpt "root-arm64-verity-sig" None "6db69de6-29f4-4758-a7a5-962190f00ce3"
    ∷ gpt "root-ia64-verity-sig" None "e98b36ee-32ba-4882-9b12-0ce14655f46a"
    ∷ gpt "root-loongarch64-verity-sig" None "5afb67eb-ecc8-4f85-ae8e-ac1e7c50e7d0"
    ∷ gpt "root-mips-le-verity-sig" None "c919cc1f-4456-4eff-918c-f75e94525ca5"
    ∷ gpt "root-mips64-le-verity-sig" None "904e58ef-5c65-4a31-9c57-6af5fc7c5de7"
    ∷ gpt "root-ppc-verity-sig" None "1b31b5aa-add9-463a-b2ed-bd467fc857e7"
    ∷ gpt "root-ppc64-verity-sig" None "f5e2c20c-45b2-4ffa-bce9-2a60737e1aaf"
    ∷ gpt "root-ppc64-le-verity-sig" None "d4a236e7-e873-4c07-bf1d-bf6cf7f1c3c6"
    ∷ gpt "root-riscv32-verity-sig" None "3a112a75-8729-4380-b4cf-764d79934448"
    ∷ gpt "root-riscv64-verity-sig" None "efe0f087-ea8d-4469-821a-4c2a96a8386a"
    ∷ gpt "root-s390-verity-sig" None "3482388e-4254-435a-a241-766a065f9960"
    ∷ gpt "root-s390x-verity-sig" None "c80187a5-73a3-491a-901a-017c3fa953e9"
    ∷ gpt "root-tilegx-verity-sig" None "b3671439-97b0-4a53-90f7-2d5a8f3ad47b"
    ∷ gpt "root-x86-verity-sig" None "5996fc05-109c-48de-808b-23fa0830b676"
    ∷ gpt "root-x86-64-verity-sig" None "41092b05-9fc8-4523-994f-2def0408b176"
    ∷ []

-- the same of /usr
abbrev pub usr_rows : List EntryRow
usr_rows =
    gpt "usr-alpha" None "e18cf08c-33ec-4c0d-8246-c6c6fb3da024"
    ∷ gpt "usr-arc" None "7978a683-6316-4922-bbee-38bff5a2fecc"
    ∷ gpt "usr-arm" (Some 0x8315) "7d0359a3-02b3-4f0a-865c-654403e70625"
    ∷ gpt "usr-arm64" (Some 0x8316) "b0e01050-ee5f-4390-949a-9101b17104e9"
    ∷ gpt "usr-ia64" (Some 0x8317) "4301d2a6-4e3b-4b2a-bb94-9e0b2c4225ea"
    ∷ gpt "usr-loongarch64" None "e611c702-575c-4cbe-9a46-434fa0bf7e3f"
    ∷ gpt "usr-mips-le" None "0f4868e9-9952-4706-979f-3ed3a473e947"
    ∷ gpt "usr-mips64-le" None "c97c1f32-ba06-40b4-9f22-236061b08aa8"
    ∷ gpt "usr-ppc" None "7d14fec5-cc71-415d-9d6c-06bf0b3c3eaf"
    ∷ gpt "usr-ppc64" None "2c9739e2-f068-46b3-9fd0-01c5a9afbcca"
    ∷ gpt "usr-ppc64-le" None "15bb03af-77e7-4d4a-b12b-c0d084f7491c"
    ∷ gpt "usr-riscv32" None "b933fb22-5c3f-4f91-af90-e2bb0fa50702"
    ∷ gpt "usr-riscv64" None "beaec34b-8442-439b-a40b-984381ed097d"
    ∷ gpt "usr-s390" None "cd0f869b-d0fb-4ca0-b141-9ea87cc78d66"
    ∷ gpt "usr-s390x" None "8a4f5770-50aa-4ed3-874a-99b710db6fea"
    ∷ gpt "usr-tilegx" None "55497029-c7c1-44cc-aa39-815ed1558630"
    ∷ gpt "usr-x86" (Some 0x8313) "75250d76-8cc6-458e-bd66-bd47cc81a812"
    ∷ gpt "usr-x86-64" (Some 0x8314) "8484680c-9521-48c6-9c11-b0720656f69e"
    ∷ gpt "usr-alpha-verity" None "8cce0d25-c0d0-4a44-bd87-46331bf1df67"
    ∷ gpt "usr-arc-verity" None "fca0598c-d880-4591-8c16-4eda05c7347c"
    ∷ gpt "usr-arm-verity" (Some 0x831A) "c215d751-7bcd-4649-be90-6627490a4c05"
    ∷ gpt "usr-arm64-verity" (Some 0x831B) "6e11a4e7-fbca-4ded-b9e9-e1a512bb664e"
    ∷ gpt "usr-ia64-verity" (Some 0x831C) "6a491e03-3be7-4545-8e38-83320e0ea880"
    ∷ gpt "usr-loongarch64-verity" None "f46b2c26-59ae-48f0-9106-c50ed47f673d"
    ∷ gpt "usr-mips-le-verity" None "46b98d8d-b55c-4e8f-aab3-37fca7f80752"
    ∷ gpt "usr-mips64-le-verity" None "3c3d61fe-b5f3-414d-bb71-8739a694a4ef"
    ∷ gpt "usr-ppc-verity" None "df765d00-270e-49e5-bc75-f47bb2118b09"
    ∷ gpt "usr-ppc64-verity" None "bdb528a5-a259-475f-a87d-da53fa736a07"
    ∷ gpt "usr-ppc64-le-verity" None "ee2b9983-21e8-4153-86d9-b6901a54d1ce"
    ∷ gpt "usr-riscv32-verity" None "cb1ee4e3-8cd0-4136-a0a4-aa61a32e8730"
    ∷ gpt "usr-riscv64-verity" None "8f1056be-9b05-47c4-81d6-be53128e5b54"
    ∷ gpt "usr-s390-verity" None "b663c618-e7bc-4d6d-90aa-11b756bb1797"
    ∷ gpt "usr-s390x-verity" None "31741cc4-1a2a-4111-a581-e00b447d2d06"
    ∷ gpt "usr-tilegx-verity" None "2fb4bf56-07fa-42da-8132-6b139f2026ae"
    ∷ gpt "usr-x86-verity" (Some 0x8318) "8f461b0d-14ee-4e81-9aa9-049b6fb97abd"
    ∷ gpt "usr-x86-64-verity" (Some 0x8319) "77ff5f63-e7b6-4633-acf4-1565b864c0e6"
    ∷ gpt "usr-alpha-verity-sig" None "5c6e1c76-076a-457a-a0fe-f3b4cd21ce6e"
    ∷ gpt "usr-arc-verity-sig" None "94f9a9a1-9971-427a-a400-50cb297f0f35"
    ∷ gpt "usr-arm-verity-sig" None "d7ff812f-37d1-4902-a810-d76ba57b975a"
    ∷ gpt "usr-arm64-verity-sig" None "c23ce4ff-44bd-4b00-b2d4-b41b3419e02a"
    ∷ gpt "usr-ia64-verity-sig" None "8de58bc2-2a43-460d-b14e-a76e4a17b47f"
    ∷ gpt "usr-loongarch64-verity-sig" None "b024f315-d330-444c-8461-44bbde524e99"
    ∷ gpt "usr-mips-le-verity-sig" None "3e23ca0b-a4bc-4b4e-8087-5ab6a26aa8a9"
    ∷ gpt "usr-mips64-le-verity-sig" None "f2c2c7ee-adcc-4351-b5c6-ee9816b66e16"
    ∷ gpt "usr-ppc-verity-sig" None "7007891d-d371-4a80-86a4-5cb875b9302e"
    ∷ gpt "usr-ppc64-verity-sig" None "0b888863-d7f8-4d9e-9766-239fce4d58af"
    ∷ gpt "usr-ppc64-le-verity-sig" None "c8bfbd1e-268e-4521-8bba-bf314c399557"
    ∷ gpt "usr-riscv32-verity-sig" None "c3836a13-3137-45ba-b583-b16c50fe5eb4"
    ∷ gpt "usr-riscv64-verity-sig" None "d2f9000a-7a18-453f-b5cd-4d32f77a7b32"
    ∷ gpt "usr-s390-verity-sig" None "17440e4f-a8d0-467f-a46e-3912ae6ef2c5"
    ∷ gpt "usr-s390x-verity-sig" None "3f324816-667b-46ae-86ee-9b0c0c6c11b4"
    ∷ gpt "usr-tilegx-verity-sig" None "4ede75e2-6ccc-4cc8-b9c7-70334b087510"
    ∷ gpt "usr-x86-verity-sig" None "974a71c0-de41-43c3-be5d-5c5ccd1ad2c0"
    ∷ gpt "usr-x86-64-verity-sig" None "e7bb33fb-06cf-4e81-8273-e543b413e2e2"
    ∷ []

-- Microsoft, Apple, and the BSDs
abbrev pub system_rows : List EntryRow
system_rows =
    gpt "microsoft-basic" (Some 0x0700) "ebd0a0a2-b9e5-4433-87c0-68b6b72699c7"
    ∷ gpt "microsoft-reserved" (Some 0x0C01) "e3c9e316-0b5c-4db8-817d-f92df00215ae"
    ∷ gpt "windows-recovery" (Some 0x2700) "de94bba4-06d1-4d40-a16a-bfd50179d6ac"
    ∷ gpt "microsoft-ldm-data" (Some 0x4200) "af9b60a0-1431-4f62-bc68-3311714a69ad"
    ∷ gpt "microsoft-ldm-metadata" (Some 0x4201) "5808c8aa-7e8f-42e0-85d2-e1e90434cfb3"
    ∷ gpt "microsoft-storage-spaces" (Some 0x4202) "e75caf8f-f680-4cee-afa3-b001e56efc2d"
    ∷ gpt "microsoft-storage-replica" (Some 0x0701) "558d43c5-a1ac-43c0-aac8-d1472b2923d1"
    ∷ gpt "apple-hfs" (Some 0xAF00) "48465300-0000-11aa-aa11-00306543ecac"
    ∷ gpt "apple-raid" (Some 0xAF01) "52414944-0000-11aa-aa11-00306543ecac"
    ∷ gpt "apple-raid-offline" (Some 0xAF02) "52414944-5f4f-11aa-aa11-00306543ecac"
    ∷ gpt "apple-label" (Some 0xAF03) "4c616265-6c00-11aa-aa11-00306543ecac"
    ∷ gpt "apple-tv-recovery" (Some 0xAF04) "5265636f-7665-11aa-aa11-00306543ecac"
    ∷ gpt "apple-core-storage" (Some 0xAF05) "53746f72-6167-11aa-aa11-00306543ecac"
    ∷ gpt "apple-apfs" (Some 0xAF0A) "7c3457ef-0000-11aa-aa11-00306543ecac"
    ∷ gpt "apple-silicon-boot" (Some 0xAF0B) "69646961-6700-11aa-aa11-00306543ecac"
    ∷ gpt "apple-silicon-recovery" (Some 0xAF0C) "52637672-7900-11aa-aa11-00306543ecac"
    ∷ gpt "apple-boot" (Some 0xAB00) "426f6f74-0000-11aa-aa11-00306543ecac"
    ∷ gpt "apple-ufs" (Some 0xA800) "55465300-0000-11aa-aa11-00306543ecac"
    ∷ gpt "freebsd" (Some 0xA500) "516e7cb4-6ecf-11d6-8ff8-00022d09712b"
    ∷ gpt "freebsd-boot" (Some 0xA501) "83bd6b9d-7f41-11dc-be0b-001560b84f0f"
    ∷ gpt "freebsd-swap" (Some 0xA502) "516e7cb5-6ecf-11d6-8ff8-00022d09712b"
    ∷ gpt "freebsd-ufs" (Some 0xA503) "516e7cb6-6ecf-11d6-8ff8-00022d09712b"
    ∷ gpt "freebsd-zfs" (Some 0xA504) "516e7cba-6ecf-11d6-8ff8-00022d09712b"
    ∷ gpt "freebsd-vinum" (Some 0xA505) "516e7cb8-6ecf-11d6-8ff8-00022d09712b"
    ∷ gpt "freebsd-nandfs" (Some 0xA506) "74ba7dd9-a689-11e1-bd04-00e081286acf"
    ∷ gpt "openbsd" (Some 0xA600) "824cc7a0-36a8-11e3-890a-952519ad3f61"
    ∷ gpt "netbsd-swap" (Some 0xA901) "49f48d32-b10e-11dc-b99b-0019d1879648"
    ∷ gpt "netbsd-ffs" (Some 0xA902) "49f48d5a-b10e-11dc-b99b-0019d1879648"
    ∷ gpt "netbsd-lfs" (Some 0xA903) "49f48d82-b10e-11dc-b99b-0019d1879648"
    ∷ gpt "netbsd-concatenated" (Some 0xA904) "2db519c4-b10f-11dc-b99b-0019d1879648"
    ∷ gpt "netbsd-encrypted" (Some 0xA905) "2db519ec-b10f-11dc-b99b-0019d1879648"
    ∷ gpt "netbsd-raid" (Some 0xA906) "49f48daa-b10e-11dc-b99b-0019d1879648"
    ∷ []

-- others, and further names of types above
abbrev pub other_rows : List EntryRow
other_rows =
    gpt "chromeos-kernel" (Some 0x7F00) "fe3a2a5d-4f32-41a7-b725-accc3285a309"
    ∷ gpt "chromeos-root" (Some 0x7F01) "3cb8e202-3b7e-47dd-8a3c-7ff2a13cfcec"
    ∷ gpt "chromeos-reserved" (Some 0x7F02) "2e0a753d-9e48-43b0-8337-b15192cb1b5e"
    ∷ gpt "chromeos-firmware" (Some 0x7F03) "cab6e88e-abf3-4102-a07a-d4bb9be3c1d3"
    ∷ gpt "chromeos-minios" (Some 0x7F04) "09845860-705f-4bb5-b16c-8a8a099caf52"
    ∷ gpt "chromeos-hibernate" (Some 0x7F05) "3f0f8318-f146-4e6b-8222-c28c8f02e0d5"
    ∷ gpt "solaris-boot" (Some 0xBE00) "6a82cb45-1dd2-11b2-99a6-080020736631"
    ∷ gpt "solaris-root" (Some 0xBF00) "6a85cf4d-1dd2-11b2-99a6-080020736631"
    ∷ gpt "solaris-usr" (Some 0xBF01) "6a898cc3-1dd2-11b2-99a6-080020736631"
    ∷ gpt "solaris-swap" (Some 0xBF02) "6a87c46f-1dd2-11b2-99a6-080020736631"
    ∷ gpt "solaris-backup" (Some 0xBF03) "6a8b642b-1dd2-11b2-99a6-080020736631"
    ∷ gpt "solaris-var" (Some 0xBF04) "6a8ef2e9-1dd2-11b2-99a6-080020736631"
    ∷ gpt "solaris-home" (Some 0xBF05) "6a90ba39-1dd2-11b2-99a6-080020736631"
    ∷ gpt "plan9" (Some 0x3900) "c91818f9-8025-47af-89d2-f030d7000c2c"
    ∷ gpt "haiku" (Some 0xEB00) "42465331-3ba3-10f1-802a-4861696b7521"
    ∷ gpt "qnx6" (Some 0xB300) "cef5a9ad-73bc-4601-89f3-cdeeeee321a1"
    ∷ gpt "hp-ux-data" (Some 0xC001) "75894c1e-3aeb-11d3-b7c1-7b03a0000000"
    ∷ gpt "hp-ux-service" (Some 0xC002) "e2a1e728-32e3-11d6-a682-7b03a0000000"
    ∷ gpt "ibm-gpfs" (Some 0x7501) "37affc90-ef7d-4e96-91c3-2d7ae055b174"
    ∷ gpt "vmware-vmfs" (Some 0xFB00) "aa31e02a-400f-11db-9590-000c2911d1b8"
    ∷ gpt "vmware-reserved" (Some 0xFB01) "9198effc-31c0-11db-8f78-000c2911d1b8"
    ∷ gpt "vmware-diagnostic" (Some 0xFC00) "9d275380-40ad-11db-bf97-000c2911d1b8"
    ∷ gpt "ceph-osd" (Some 0xF800) "4fbd7e29-9d25-41b8-afd0-062c0ceff05d"
    ∷ gpt "ceph-journal" (Some 0xF802) "45b0969e-9b03-4f30-b4c6-b4b80ceff106"
    ∷ gpt "efi" None "c12a7328-f81f-11d2-ba4b-00a0c93ec93b"
    ∷ gpt "uefi" None "c12a7328-f81f-11d2-ba4b-00a0c93ec93b"
    ∷ gpt "linux" None "0fc63daf-8483-4772-8e79-3d69d8477de4"
    ∷ gpt "linux-swap" None "0657fd6d-a4ab-43c4-84e5-0933c84b4f4f"
    ∷ gpt "linux-lvm" None "e6d6d379-f507-44c2-a23c-238f2a3df928"
    ∷ gpt "linux-raid" None "a19d880f-05fc-4d3b-a006-743f0f84911e"
    ∷ []

abbrev pub entry_table : List EntryRow
entry_table = general_rows ++ (root_rows ++ (usr_rows ++ (system_rows ++ other_rows)))

-- ## The types of an MBR. Of two rows with one number the first one has its printed name.

abbrev pub record_table : List RecordRow
record_table =
    mbr "fat12" 0x01
    ∷ mbr "fat16-small" 0x04
    ∷ mbr "extended" 0x05
    ∷ mbr "fat16" 0x06
    ∷ mbr "ntfs" 0x07
    ∷ mbr "fat32" 0x0B
    ∷ mbr "fat32-lba" 0x0C
    ∷ mbr "fat16-lba" 0x0E
    ∷ mbr "extended-lba" 0x0F
    ∷ mbr "hidden-fat12" 0x11
    ∷ mbr "compaq-diagnostics" 0x12
    ∷ mbr "hidden-fat16-small" 0x14
    ∷ mbr "hidden-fat16" 0x16
    ∷ mbr "hidden-ntfs" 0x17
    ∷ mbr "hidden-fat32" 0x1B
    ∷ mbr "hidden-fat32-lba" 0x1C
    ∷ mbr "hidden-fat16-lba" 0x1E
    ∷ mbr "windows-recovery" 0x27
    ∷ mbr "plan9" 0x39
    ∷ mbr "prep" 0x41
    ∷ mbr "qnx4" 0x4D
    ∷ mbr "qnx4-second" 0x4E
    ∷ mbr "qnx4-third" 0x4F
    ∷ mbr "hurd" 0x63
    ∷ mbr "minix-old" 0x80
    ∷ mbr "minix" 0x81
    ∷ mbr "swap" 0x82
    ∷ mbr "linux" 0x83
    ∷ mbr "hibernation" 0x84
    ∷ mbr "linux-extended" 0x85
    ∷ mbr "linux-plaintext" 0x88
    ∷ mbr "lvm" 0x8E
    ∷ mbr "freebsd" 0xA5
    ∷ mbr "openbsd" 0xA6
    ∷ mbr "nextstep" 0xA7
    ∷ mbr "darwin-ufs" 0xA8
    ∷ mbr "netbsd" 0xA9
    ∷ mbr "darwin-boot" 0xAB
    ∷ mbr "hfs" 0xAF
    ∷ mbr "solaris-boot" 0xBE
    ∷ mbr "solaris" 0xBF
    ∷ mbr "non-fs" 0xDA
    ∷ mbr "dell-utility" 0xDE
    ∷ mbr "xbootldr" 0xEA
    ∷ mbr "beos" 0xEB
    ∷ mbr "esp" 0xEF
    ∷ mbr "ebbr-protective" 0xF8
    ∷ mbr "vmware-vmfs" 0xFB
    ∷ mbr "vmware-vmkcore" 0xFC
    ∷ mbr "raid" 0xFD
    ∷ mbr "exfat" 0x07
    ∷ mbr "efi" 0xEF
    ∷ mbr "uefi" 0xEF
    ∷ mbr "linux-swap" 0x82
    ∷ mbr "linux-lvm" 0x8E
    ∷ mbr "linux-raid" 0xFD
    ∷ []
