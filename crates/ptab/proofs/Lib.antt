mod Lifetimes
