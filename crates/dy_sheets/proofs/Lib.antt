mod Named
mod Owing
